-- Which schedules are complete: those that name each process as often as it takes steps, which no other process changes
-- (1364-2005, 11.4.2).
use Rattle.std.specs.Prelude.{◌≡◌, ◌≤◌, ⊤, ℕ, zero, suc, ◌+◌, List, [], ◌∷◌, length, take, drop, Option, None, Some, slice_get, slice_set}
use Rattle.v_meaning.specs.Views.{View, applied}
use Rattle.v_meaning.specs.Acts.{Acts, End, Branch, Blocking, Nonblocking, alone}

-- how many steps a process takes that takes them alone, from this view on
abbrev pub steps_of : Acts → View → ℕ
steps_of End v = 0
steps_of (Branch f rest) v = suc (steps_of (f v) v + steps_of rest (alone (f v) v))
steps_of (Blocking f rest) v = suc (steps_of rest (applied v (f v)))
steps_of (Nonblocking f rest) v = suc (steps_of rest v)

-- how many each of these takes, one process after another
abbrev pub steps_in_order : List Acts → View → List ℕ
steps_in_order [] v = []
steps_in_order (process ∷ processes) v = steps_of process v ∷ steps_in_order processes (alone process v)

-- each entry of a schedule takes one from the number of its process, and these are left
abbrev pub TakesDown : List ℕ → List ℕ → List ℕ → Type 0
TakesDown steps [] left = steps ≡ left
TakesDown steps (process ∷ schedule) left = (n : ℕ) × (slice_get steps process ≡ Some (suc n)) × TakesDown (slice_set steps process n) schedule left

abbrev pub AreZero : List ℕ → Type 0
AreZero [] = ⊤
AreZero (n ∷ steps) = (n ≡ 0) × AreZero steps

abbrev pub HasNoStep : Option ℕ → Type 0
HasNoStep None = ⊤
HasNoStep (Some zero) = ⊤
HasNoStep (Some (suc n)) = ⊥

-- Where so many steps are left a schedule does not go on: its next entry names a process that has none left, or none at
-- all; or it has no entry more, though some process has steps left.
abbrev pub IsShort : List ℕ → List ℕ → Type 0
IsShort steps [] = AreZero steps → ⊥
IsShort steps (process ∷ schedule) = HasNoStep (slice_get steps process)

-- a schedule that takes these numbers of steps down to none
abbrev pub IsCounted : List ℕ → List ℕ → Type 0
IsCounted steps schedule = (left : List ℕ) × TakesDown steps schedule left × AreZero left

-- one that does not go on behind so many entries
abbrev pub IsShortAt : List ℕ → List ℕ → ℕ → Type 0
IsShortAt steps schedule index = (index ≤ length schedule) × (left : List ℕ) × TakesDown steps (take index schedule) left × IsShort left (drop index schedule)
