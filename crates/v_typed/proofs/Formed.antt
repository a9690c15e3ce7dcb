-- Assigns and processes that keep to their widths.
use Rattle.std.proofs.Common.{◌≡◌, ◌≤◌, ap, ◌∙◌, refl, ℕ, List, [], ◌∷◌, ◌++◌, max, Bool, true, false, arith}
use Rattle.std.specs.Prelude.{◌&&◌, ◌==◌, nat_le}
use Rattle.std.specs.List.{list_all}
use Rattle.std.proofs.lemmas.Bool.{leb-true}
use Rattle.v_meaning.specs.declared.names.Entry.{Entry}
use Rattle.v_core.specs.declared.typed.Typed.{Typed}
use Rattle.v_core.specs.declared.open.Open.{Open}
use Rattle.v_core.specs.Formed.{FormedIn, formed, has}
use Rattle.v_core.specs.OpenForms.{OpenFormed, body_form}

pub both : {a b : Bool} → a ≡ true → b ≡ true → (a && b) ≡ true
both p q = λ i. p i && q i

second : (a b : Bool) → (a && b) ≡ true → b ≡ true
second true b h = h
second false b h = absurd (cc h)

-- a right side at the greater one of both widths
pub side_keeps : (names : List Entry) (side : Open) (t : Typed) (width wide : ℕ) → formed t ≡ body_form side.body wide side.signed → wide ≡ max width side.width →
    OpenFormed side names → width ≤ 128 → (formed t names).kept ≡ true
side_keeps names side t width wide p is h few =
    let word : side.width ≤ 128 = leb-true side.width 128 (second (nat_le 1 side.width) (nat_le side.width 128) h.word) in
    second ((formed t names).width == wide) (formed t names).kept
    (ap (λ (f : FormedIn). has wide (f names)) p ∙ h.at wide side.signed (omega (arith, is)) (omega (arith, is, few, word)))

push : {X : Type 0} (test : X → Bool) (old : List X) (x : X) → test x ≡ true → list_all test (old ++ x ∷ []) ≡ list_all test old
push test [] x h = both h refl
push test (y ∷ ys) x h = ap (λ (b : Bool). test y && b) (push test ys x h)

pub pushed : {X : Type 0} (test : X → Bool) (old new : List X) (x : X) → new ≡ old ++ x ∷ [] → test x ≡ true → list_all test new ≡ list_all test old
pushed test old new x p h = ap (list_all test) p ∙ push test old x h
