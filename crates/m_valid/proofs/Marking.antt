-- A mark is left at one node and at no other.
use Rattle.std.proofs.Common.{◌≡◌, ◌≢◌, ◌<◌, ◌+◌, ℕ, zero, suc, List, [], ◌∷◌, ◌==◌, length, get_or, replicate, Bool, true, false, None, Some, if◌then◌else◌, refl, ap, ◌∙◌, arith, inl, inr}
use Rattle.std.proofs.Math.ListN.{set}
use Rattle.std.proofs.lemmas.List.{get_or-set_same, get_or-set_other}
use Rattle.std.proofs.lemmas.Bool.Decides.{eqb_tells}
use Rattle.m_valid.specs.declared.marks.Mark.{Mark}
use Rattle.m_valid.specs.Walk.{known, left, table_of}
use Rattle.m_valid.proofs.Lists.{eq_true, eq_false}

pub known_here : (marks : List Mark) (line number table : ℕ) → number < length marks → known (set marks number (record { line = line; table = table })) line number ≡ Some table
known_here marks line number table lt =
    let m : Mark = record { line = line; table = table } in
    ap (table_of line) (get_or-set_same marks number m (record { line = 0; table = 0 }) lt) ∙ ap (λ b. if b then Some table else None) (eq_true line line refl)

pub known_other : (marks : List Mark) (number : ℕ) (m : Mark) (line k : ℕ) → k ≢ number → known (set marks number m) line k ≡ known marks line k
known_other marks number m line k other = ap (table_of line) (get_or-set_other marks number k m (record { line = 0; table = 0 }) other)

pub known_later : (marks : List Mark) (line number table : ℕ) → number < length marks → (later k : ℕ) → line < later → known marks later k ≡ None
    → known (set marks number (record { line = line; table = table })) later k ≡ None
known_later marks line number table lt later k before none = elim (eqb_tells k number) [
  | inl e ↦ rw e.1
      (ap (table_of later) (get_or-set_same marks number (record { line = line; table = table }) (record { line = 0; table = 0 }) lt)
      ∙ ap (λ b. if b then Some table else None) (eq_false line later (λ s. omega (arith, before, s))))
  | inr e ↦ known_other marks number (record { line = line; table = table }) later k e.1 ∙ none
]

not_marked : (b : Bool) (table : ℕ) → (if b then Some table else None) ≡ None → b ≡ false
not_marked true table e = cc
not_marked false table e = refl

pub fewer_left : (marks : List Mark) (line number table : ℕ) → number < length marks → known marks line number ≡ None
    → left line (set marks number (record { line = line; table = table })) + 1 ≡ left line marks
fewer_left [] line number table lt none = absurd (omega arith)
fewer_left (m ∷ ms) line zero table lt none =
    let old : (m.line == line) ≡ false = not_marked (m.line == line) m.table none in
    let new : (line == line) ≡ true = eq_true line line refl in
    rw (old, new) (omega arith)
fewer_left (m ∷ ms) line (suc number) table lt none = omega (arith, fewer_left ms line number table (omega arith) none)

-- no line has left a mark
blank_marks : (count k : ℕ) (m : Mark) → get_or (replicate count m) k m ≡ m
blank_marks zero k m = refl
blank_marks (suc count) zero m = refl
blank_marks (suc count) (suc k) m = blank_marks count k m

pub none_known : (count line k : ℕ) → 0 < line → known (replicate count (record { line = 0; table = 0 })) line k ≡ None
none_known count line k some = ap (table_of line) (blank_marks count k (record { line = 0; table = 0 })) ∙ ap (λ b. if b then Some 0 else None) (eq_false 0 line (λ e. omega (arith, e)))
