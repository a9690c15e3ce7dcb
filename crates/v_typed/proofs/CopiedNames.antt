-- The first names of a list, each of which is a word.
use Rattle.std.proofs.Common.{◌≡◌, ◌<◌, ◌+◌, ◌-◌, ap, sym, subst, ◌∙◌, refl, ℕ, zero, suc, length, take, add-one, List, [], ◌∷◌, ◌++◌, None, Some, arith}
use Rattle.std.specs.Prelude.{slice_get}
use Rattle.std.proofs.Math.Seq.{take-suc}
use Rattle.std.proofs.lemmas.Option.{slice_get_within, get_or_from_slice_get}
use Rattle.v_meaning.specs.declared.names.Entry.{Entry}
use Rattle.v_names.specs.Words.{IsWord, AreWords}

pub one_more : (names old new : List Entry) (n : ℕ) (e : Entry) → slice_get names n ≡ Some e → new ≡ old ++ e ∷ [] → old ≡ take n names → new ≡ take (n + 1) names
one_more names old new n e h p q =
    p ∙ ap (λ (r : List Entry). r ++ e ∷ []) q ∙ ap (λ (x : Entry). take n names ++ x ∷ []) (sym (get_or_from_slice_get names n e e h))
    ∙ sym (take-suc names n e (slice_get_within names n e h)) ∙ ap (λ (k : ℕ). take k names) (sym (add-one n))

pub words_push : (old new : List Entry) (e : Entry) → new ≡ old ++ e ∷ [] → IsWord e → AreWords old → AreWords new
words_push old new e p h before = subst AreWords (sym p) (push old before)
  where
    push : (es : List Entry) → AreWords es → AreWords (es ++ e ∷ [])
    push [] q = (h, q)
    push (x ∷ xs) q = (q.0, push xs q.1)

pub all_taken : (names copy : List Entry) (n : ℕ) → slice_get names n ≡ None → copy ≡ take n names → copy ≡ names
all_taken names copy n h p = p ∙ whole names n h
  where
    whole : (names : List Entry) (n : ℕ) → slice_get names n ≡ None → take n names ≡ names
    whole [] zero h = refl
    whole [] (suc n) h = refl
    whole (x ∷ xs) zero h = absurd (cc h)
    whole (x ∷ xs) (suc n) h = ap (λ (r : List Entry). x ∷ r) (whole xs n h)

pub fewer_left : (names : List Entry) (n : ℕ) (e : Entry) → slice_get names n ≡ Some e → length names - (n + 1) < length names - n
fewer_left names n e h = omega (arith, slice_get_within names n e h)
