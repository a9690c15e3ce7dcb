-- A set of names with one more, and what the test among names decides.
use Rattle.std.proofs.Common.{◌≡◌, ℕ, Bool, true, false, cond, List, [], ◌∷◌, ◌++◌, refl, sym, ap, ◌∙◌, inl, inr, Bor}
use Rattle.std.specs.Prelude.{◌||◌, ◌↔◌, IsTrue, bytes_eq}
use Rattle.std.specs.Bool.{Decides}
use Rattle.std.specs.Ordering.{nat_cmp, is_eq}
use Rattle.std.specs.Cmp.Lexicographic.{slice_cmp}
use Rattle.std.specs.BTreeSet.{BTreeSet, Updates}
use Rattle.std.proofs.lemmas.Map.Text.{is_eq-slice_cmp}
use Rattle.std.proofs.lemmas.Slice.Eq.{bytes_eq-Decides}
use Rattle.lz_base.specs.Met.{Met}
use Rattle.lz_base.specs.Names.{IsAmong, is_among}

swap : (a b c : Bool) → (a || (b || c)) ≡ (b || (a || c))
swap true true c = refl
swap true false c = refl
swap false b c = refl

among_push : (q key : List ℕ) (names : List (List ℕ)) → is_among q (names ++ key ∷ []) ≡ (bytes_eq key q || is_among q names)
among_push q key [] = refl
among_push q key (other ∷ names) = ap (λ b. bytes_eq other q || b) (among_push q key names) ∙ swap (bytes_eq other q) (bytes_eq key q) (is_among q names)

cond_or : (t w : Bool) → cond t true w ≡ (t || w)
cond_or true w = refl
cond_or false w = refl

-- a set with one more name has met that one too
pub met_push : (old new : BTreeSet (Bor (List ℕ))) (key : Bor (List ℕ)) (names : List (List ℕ)) → Updates (λ x y. slice_cmp nat_cmp x.now y.now) old new key true → Met old names
    → Met new (names ++ key.now ∷ [])
met_push old new key names updates met q =
    updates.0 q ∙ ap (λ w. cond (is_eq (slice_cmp nat_cmp key.now q.now)) true w) (met q) ∙ ap (λ t. cond t true (is_among q.now names)) (is_eq-slice_cmp key.now q.now)
    ∙ cond_or (bytes_eq key.now q.now) (is_among q.now names) ∙ sym (among_push q.now key.now names)

one_more : (name other : List ℕ) (names : List (List ℕ)) (test rest : Bool) → Decides test (other ≡ name) → IsTrue rest ↔ IsAmong name names
    → IsTrue (test || rest) ↔ IsAmong name (other ∷ names)
one_more name other names true rest decides goes = (λ h. inl (sym (decides.0 refl)), λ h. refl)
one_more name other names false rest decides goes = (λ h. inr (goes.0 h), λ h. only_later name other names rest decides goes h)
  where
    only_later : (name other : List ℕ) (names : List (List ℕ)) (rest : Bool) → Decides false (other ≡ name) → IsTrue rest ↔ IsAmong name names → IsAmong name (other ∷ names) → IsTrue rest
    only_later name other names rest decides goes (inl e) = absurd (cc (decides.1 (sym e)))
    only_later name other names rest decides goes (inr h) = goes.1 h

-- the test decides
pub among_decides : (name : List ℕ) (names : List (List ℕ)) → IsTrue (is_among name names) ↔ IsAmong name names
among_decides name [] = (λ h. absurd (cc h), λ h. absurd h)
among_decides name (other ∷ names) = one_more name other names (bytes_eq other name) (is_among name names) (bytes_eq-Decides other name) (among_decides name names)
