-- When an index is a constant expression in range, and how many bits of a number are open.
use Rattle.std.proofs.Common.{◌≡◌, ◌≤◌, ◌/◌, ℕ, zero, suc, arith, List, Bool, true, false, Option, refl, sym, ap, ◌∙◌}
use Rattle.std.specs.Prelude.{◌&&◌, is_some}
use Rattle.std.proofs.lemmas.Nat.{mod_below}
use Rattle.v_syntax.specs.declared.expr.Expr.{Expr}
use Rattle.v_meaning.specs.declared.names.Entry.{Entry}
use Rattle.v_meaning.specs.declared.literal.Literal.{Literal}
use Rattle.v_meaning.specs.Literals.{ones_in, open_bits}
use Rattle.v_meaning.specs.Names.{within_entry}
use Rattle.v_meaning.specs.Expressions.{is_constant}
use Rattle.v_meaning.specs.Declarations.{constant_value}
use Rattle.v_meaning.specs.Proper.{is_sound, is_proper}
use Rattle.v_meaning.specs.Sites.{is_fixed}
use Rattle.v_constants.specs.declared.body.Open.{Open}
use Rattle.v_constants.specs.Constants.{IsConstant}

first_of : (a b : Bool) → (a && b) ≡ true → a ≡ true
first_of true b h = refl
first_of false b h = absurd (cc h)

not_first : (a b : Bool) → (a && b) ≡ false → b ≡ true → a ≡ false
not_first true b h is = absurd (cc (h, is))
not_first false b h is = refl

-- a constant index is fixed where its number is in range
pub fixed_by : (names : List Entry) (e : Entry) (x : Expr) (c : Open) (number : Option ℕ) (fixed : Bool) → IsConstant names x c → number ≡ constant_value names x →
    fixed ≡ is_some (within_entry e number) → fixed ≡ is_fixed names e x
fixed_by names e x c number fixed p is f =
    f ∙ ap (λ (n : Option ℕ). is_some (within_entry e n)) is
    ∙ ap (λ (b : Bool). b && is_some (within_entry e (constant_value names x))) (sym (first_of (is_constant names x) (is_sound names x) p.proper))

-- an index that is sound but not proper is not constant
pub not_fixed : (names : List Entry) (e : Entry) (x : Expr) → is_sound names x ≡ true → is_proper names x ≡ false → false ≡ is_fixed names e x
not_fixed names e x sound improper =
    sym (ap (λ (b : Bool). b && is_some (within_entry e (constant_value names x))) (not_first (is_constant names x) (is_sound names x) improper sound))

ones_few : (width mask : ℕ) → ones_in width mask ≤ width
ones_few zero mask = omega arith
ones_few (suc width) mask = omega (arith, mod_below mask 2 (omega arith), ones_few width (mask / 2))

pub open_few : (l : Literal) → open_bits l ≤ l.width
open_few l = ones_few l.width l.unknown
