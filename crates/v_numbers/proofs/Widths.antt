-- The width of a number is the one that it is written with.
use Rattle.std.proofs.Common.{◌≡◌, ℕ, List, [], ◌∷◌, Bool, true, false, refl}
use Rattle.std.specs.Prelude.{if◌then◌else◌, ◌==◌, ◌||◌}
use Rattle.v_meaning.specs.declared.literal.Literal.{Literal}
use Rattle.v_meaning.specs.Literals.{based_literal, behind_mark, behind_sign}

sign_width : (w : ℕ) (signed : Bool) (bytes : List ℕ) → (behind_sign w signed bytes).width ≡ w
sign_width w signed [] = refl
sign_width w signed (letter ∷ more) = refl

either_width : (b : Bool) (w : ℕ) (x y : Literal) → x.width ≡ w → y.width ≡ w → (if b then x else y).width ≡ w
either_width true w x y p q = p
either_width false w x y p q = q

mark_width : (w : ℕ) (bytes : List ℕ) → (behind_mark w bytes).width ≡ w
mark_width w [] = refl
mark_width w (letter ∷ more) =
    either_width (letter == 115 || letter == 83) w (behind_sign w true more) (behind_sign w false (letter ∷ more)) (sign_width w true more) (sign_width w false (letter ∷ more))

pub based_width : (w : ℕ) (bytes : List ℕ) → (based_literal w bytes).width ≡ w
based_width w [] = refl
based_width w (mark ∷ more) = mark_width w more
