-- How the entries of a schedule take numbers of steps down.
use Rattle.std.proofs.Common.{◌≡◌, ◌-◌, ◌<◌, ◌≤◌, ◌+◌, refl, sym, ap, ◌∙◌, subst, arith, ℕ, zero, suc, length, get_or, drop, take, add-one, List, [], ◌∷◌, true, false}
use Rattle.std.proofs.lemmas.Bool.{eqb-true}
use Rattle.std.specs.Prelude.{◌==◌, Some, slice_get, slice_index, slice_set}
use Rattle.v_order.specs.Counting.{AreZero, HasNoStep, TakesDown, IsShort, IsShortAt, IsCounted}
use Rattle.v_machine.specs.Walked.{are_none}
use Rattle.v_machine.proofs.Lists.{first_of, next_at}

pub all_zero : (steps : List ℕ) → are_none steps ≡ true → AreZero steps
all_zero [] h = tt
all_zero (zero ∷ steps) h = (refl, all_zero steps h)
all_zero (suc n ∷ steps) h = absurd (omega (arith, eqb-true (suc n) 0 (first_of (suc n == 0) (are_none steps) h)))

pub not_zero : (steps : List ℕ) → are_none steps ≡ false → AreZero steps → ⊥
not_zero [] h z = cc h
not_zero (zero ∷ steps) h z = not_zero steps h z.1
not_zero (suc n ∷ steps) h z = omega (arith, z.0)

pub no_step : (left : List ℕ) (process : ℕ) → slice_index left process ≡ 0 → HasNoStep (slice_get left process)
no_step [] process h = tt
no_step (zero ∷ left) zero h = tt
no_step (suc n ∷ left) zero h = absurd (omega (arith, h))
no_step (n ∷ left) (suc process) h = no_step left process h

pub some_step : (left : List ℕ) (process n : ℕ) → slice_index left process ≡ suc n → slice_get left process ≡ Some (suc n)
some_step [] process n h = absurd (omega (arith, h))
some_step (m ∷ left) zero n h = ap Some h
some_step (m ∷ left) (suc process) n h = some_step left process n h

pub within_step : (left : List ℕ) (process n : ℕ) → slice_index left process ≡ suc n → process < length left
within_step [] process n h = absurd (omega (arith, h))
within_step (m ∷ left) zero n h = omega arith
within_step (m ∷ left) (suc process) n h = omega (arith, within_step left process n h)

pub takes_next : (steps schedule left : List ℕ) (i d n : ℕ) → i < length schedule → slice_get left (get_or schedule i d) ≡ Some (suc n) →
    TakesDown steps (take i schedule) left → TakesDown steps (take (suc i) schedule) (slice_set left (get_or schedule i d) n)
takes_next steps [] left i d n h is taken = absurd (omega arith)
takes_next steps (p ∷ schedule) left zero d n h is taken =
    (n, ap (λ (xs : List ℕ). slice_get xs p) taken ∙ is, ap (λ (xs : List ℕ). slice_set xs p n) taken)
takes_next steps (p ∷ schedule) left (suc i) d n h is taken =
    (taken.0, taken.1, takes_next (slice_set steps p taken.0) schedule left i d n (omega arith) is taken.2)

-- a schedule does not go on at this entry
pub short_here : (steps schedule left : List ℕ) (i d : ℕ) → i < length schedule → slice_index left (get_or schedule i d) ≡ 0 →
    TakesDown steps (take i schedule) left → IsShortAt steps schedule i
short_here steps schedule left i d h none taken =
    (omega arith, left, taken, subst (IsShort left) (sym (next_at schedule i d h)) (no_step left (get_or schedule i d) none))

-- what is left behind the whole schedule
pub taken_whole : (steps schedule left : List ℕ) (i : ℕ) → length schedule ≤ i → TakesDown steps (take i schedule) left → TakesDown steps schedule left
taken_whole steps [] left zero h taken = taken
taken_whole steps [] left (suc i) h taken = taken
taken_whole steps (p ∷ schedule) left zero h taken = absurd (omega (arith, h))
taken_whole steps (p ∷ schedule) left (suc i) h taken = (taken.0, taken.1, taken_whole (slice_set steps p taken.0) schedule left i (omega (arith, h)) taken.2)

whole_taken : (steps schedule left : List ℕ) → TakesDown steps schedule left → TakesDown steps (take (length schedule) schedule) left
whole_taken steps [] left taken = taken
whole_taken steps (p ∷ schedule) left taken = (taken.0, taken.1, whole_taken (slice_set steps p taken.0) schedule left taken.2)

all_dropped : (schedule : List ℕ) → drop (length schedule) schedule ≡ []
all_dropped [] = refl
all_dropped (p ∷ schedule) = all_dropped schedule

pub counted_whole : (steps schedule left : List ℕ) (i : ℕ) → length schedule ≤ i → TakesDown steps (take i schedule) left → are_none left ≡ true → IsCounted steps schedule
counted_whole steps schedule left i h taken none = (left, taken_whole steps schedule left i h taken, all_zero left none)

pub short_behind : (steps schedule left : List ℕ) (i : ℕ) → length schedule ≤ i → TakesDown steps (take i schedule) left → are_none left ≡ false →
    IsShortAt steps schedule (length schedule)
short_behind steps schedule left i h taken some =
    (omega arith, left, whole_taken steps schedule left (taken_whole steps schedule left i h taken), subst (IsShort left) (sym (all_dropped schedule)) (not_zero left some))

-- no schedule both takes all steps down and does not go on
pub not_both : (steps schedule : List ℕ) (index : ℕ) → IsCounted steps schedule → IsShortAt steps schedule index → ⊥
not_both steps [] zero c s = s.3 (subst AreZero (sym c.1 ∙ s.2) c.2)
not_both steps [] (suc index) c s = omega (arith, s.0)
not_both steps (p ∷ schedule) zero c s = subst HasNoStep (ap (λ (xs : List ℕ). slice_get xs p) (sym s.2) ∙ c.1.1) s.3
not_both steps (p ∷ schedule) (suc index) c s =
    let same : c.1.0 ≡ s.2.0 = cc (c.1.1, s.2.1) in
    not_both (slice_set steps p s.2.0) schedule index (subst (λ (n : ℕ). IsCounted (slice_set steps p n) schedule) same (c.0, c.1.2, c.2))
    (omega (arith, s.0), s.1, s.2.2, s.3)

pub walked_on : (steps schedule left : List ℕ) (i d had : ℕ) → i < length schedule → had ≡ slice_index left (get_or schedule i d) → (had ≡ 0 → ⊥) →
    TakesDown steps (take i schedule) left → TakesDown steps (take (i + 1) schedule) (slice_set left (get_or schedule i d) (had - 1))
walked_on steps schedule left i d zero h is some taken = absurd (some refl)
walked_on steps schedule left i d (suc n) h is some taken =
    let same : n ≡ suc n - 1 = omega arith in
    rw (add-one i)
    (subst (λ (m : ℕ). TakesDown steps (take (suc i) schedule) (slice_set left (get_or schedule i d) m)) same
    (takes_next steps schedule left i d n h (some_step left (get_or schedule i d) n (sym is)) taken))
