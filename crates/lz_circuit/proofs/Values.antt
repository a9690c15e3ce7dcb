-- When two lists of values are one.
use Rattle.std.proofs.Common.{◌≡◌, ◌<◌, ℕ, List, length, take, get_or, Bool, false, sym, ap, ◌∙◌, arith}
use Rattle.std.proofs.lemmas.List.{get_or-take, ext_get_or}
use Rattle.lz_circuit.specs.Values.{value_at}

-- the same values below a number
abbrev pub Agree : List Bool → List Bool → ℕ → Type 0
Agree a b high = (k : ℕ) → k < high → value_at a k ≡ value_at b k

-- values that begin alike agree so far
pub front_agrees : (a b front : List Bool) (first : ℕ) → take first a ≡ front → take first b ≡ front → Agree a b first
front_agrees a b front first ea eb = λ k h.
    sym (get_or-take first a k false h) ∙ ap (λ l. get_or l k false) (ea ∙ sym eb) ∙ get_or-take first b k false h

-- and where they agree to their end they are one
pub whole_agrees : (a b : List Bool) (count : ℕ) → length a ≡ count → length b ≡ count → Agree a b count → a ≡ b
whole_agrees a b count ea eb all = ext_get_or false a b (ea ∙ sym eb) (λ k h. all k (omega (arith, ea)))
