-- What a machine does in a cycle is what its module does, under every schedule.
use Rattle.std.proofs.Common.{◌≡◌, ap, sym, ◌∙◌, subst, ℕ, length, List, [], Bool}
use Rattle.std.specs.Prelude.{◌↔◌}
use Rattle.v_meaning.specs.Views.{Store}
use Rattle.v_meaning.specs.Designs.{Design, InAnyOrder, InTextOrder, IsCycle, IsIncompleteAt, IsOutcome, cycle_bits, words_from}
use Rattle.v_core.specs.declared.modules.Core.{Core}
use Rattle.v_core.specs.Cores.{design_in}
use Rattle.v_order.specs.Apart.{AreApart, Owners}
use Rattle.v_order.specs.Counting.{IsCounted, IsShortAt, steps_in_order}
use Rattle.v_order.specs.Settling.{Settles}
use Rattle.v_order.specs.Steady.{AtOnce, IsSteady}
use Rattle.v_order.specs.Stepping.{next_by, shown_by, view_by}
use Rattle.v_machine.specs.Machines.{MachineValue}
use Rattle.v_machine.specs.Runnable.{CanRun}
use Rattle.v_machine.proofs.Walking.{not_both}

-- how many steps each process takes
abbrev steps_by : Design → List ℕ → Store → List ℕ → List Bool → List ℕ
steps_by d order before inputs choice = steps_in_order d.clocked (view_by d order inputs (words_from d.sites choice) before)

-- the laws of steady designs, and of those whose processes are apart besides
abbrev pub CyclesInTextOrder : Type 0
CyclesInTextOrder =
    (d : Design) (order : List ℕ) (b : AtOnce) (before : Store) (inputs : List ℕ) (choice : List Bool) → d.combinational ≡ [] → Settles d order → IsSteady d order b →
    length choice ≡ cycle_bits d → IsOutcome InTextOrder d before inputs choice (shown_by d order before inputs choice) (next_by d order before inputs choice)

abbrev pub CyclesInAnyOrder : Type 0
CyclesInAnyOrder =
    (d : Design) (order : List ℕ) (b : AtOnce) (o : Owners) (before : Store) (inputs : List ℕ) (choice : List Bool) → d.combinational ≡ [] → Settles d order → IsSteady d order b →
    AreApart d b o → length choice ≡ cycle_bits d → IsOutcome InAnyOrder d before inputs choice (shown_by d order before inputs choice) (next_by d order before inputs choice)

abbrev pub CompleteAreCounted : Type 0
CompleteAreCounted =
    (d : Design) (order : List ℕ) (b : AtOnce) (o : Owners) (before : Store) (inputs : List ℕ) (choice : List Bool) (schedule : List ℕ) → d.combinational ≡ [] → Settles d order →
    IsSteady d order b → AreApart d b o → length choice ≡ cycle_bits d →
    IsCycle d before inputs choice schedule (shown_by d order before inputs choice) (next_by d order before inputs choice) ↔ IsCounted (steps_by d order before inputs choice) schedule

abbrev pub IncompleteAreCounted : Type 0
IncompleteAreCounted =
    (d : Design) (order : List ℕ) (b : AtOnce) (o : Owners) (before : Store) (inputs : List ℕ) (choice : List Bool) (schedule : List ℕ) → d.combinational ≡ [] → Settles d order →
    IsSteady d order b → AreApart d b o → (index : ℕ) →
    IsIncompleteAt d before inputs choice schedule index ↔ IsShortAt (steps_by d order before inputs choice) schedule index

abbrev CycleOf : MachineValue → List ℕ → List Bool → List ℕ → List ℕ → Store → Type 0
CycleOf m inputs choice schedule shown after = IsCycle (design_in m.core) m.store inputs choice schedule shown after

abbrev OutcomeOf : (List ℕ → Type 0) → MachineValue → List ℕ → List Bool → List ℕ → Store → Type 0
OutcomeOf Allowed m inputs choice shown after = IsOutcome Allowed (design_in m.core) m.store inputs choice shown after

module _ (m : MachineValue) (c : Core) (before : Store) (order items inputs : List ℕ) (choice : List Bool)
    (is : record { core = c; store = before } ≡ m) (runs : CanRun c order) (same : items ≡ order) (bits : length choice ≡ cycle_bits (design_in m.core)) where
  abbrev d : Design
  d = design_in c

  abbrev own : MachineValue
  own = record { core = c; store = before }

  own_bits : length choice ≡ cycle_bits d
  own_bits = bits ∙ sym (ap (λ (x : MachineValue). cycle_bits (design_in x.core)) is)

  any_own : CyclesInAnyOrder → OutcomeOf InAnyOrder own inputs choice (shown_by d order before inputs choice) (next_by d order before inputs choice)
  any_own law = law d order runs.apart.0 runs.apart.1 before inputs choice runs.clocked runs.settles runs.apart.2 runs.apart.3 own_bits

  module _ (shown : List ℕ) (next : Store) (shows : shown ≡ shown_by d items before inputs choice) (goes : next ≡ next_by d items before inputs choice) where
    seen : (P : MachineValue → List ℕ → Store → Type 0) → P own (shown_by d order before inputs choice) (next_by d order before inputs choice) → P m shown next
    seen P h =
        let shows_by : shown ≡ shown_by d order before inputs choice = shows ∙ ap (λ (o : List ℕ). shown_by d o before inputs choice) same in
        let goes_by : next ≡ next_by d order before inputs choice = goes ∙ ap (λ (o : List ℕ). next_by d o before inputs choice) same in
        subst (λ (x : MachineValue). P x shown next) is
        (subst (λ (s : List ℕ). P own s next) (sym shows_by) (subst (λ (n : Store). P own (shown_by d order before inputs choice) n) (sym goes_by) h))

    pub outcome_is : CyclesInTextOrder → OutcomeOf InTextOrder m inputs choice shown next
    outcome_is law =
        seen (λ (x : MachineValue) (s : List ℕ) (n : Store). OutcomeOf InTextOrder x inputs choice s n)
        (law d order runs.apart.0 before inputs choice runs.clocked runs.settles runs.apart.2 own_bits)

    pub every_is : CyclesInAnyOrder → OutcomeOf InAnyOrder m inputs choice shown next
    every_is law = seen (λ (x : MachineValue) (s : List ℕ) (n : Store). OutcomeOf InAnyOrder x inputs choice s n) (any_own law)

  module _ (counts schedule : List ℕ) (now : Store) (counted : counts ≡ steps_by d items now inputs choice) (copied : now ≡ before) where
    counts_by : counts ≡ steps_by d order before inputs choice
    counts_by = counted ∙ (λ i. steps_by d (same i) (copied i) inputs choice)

    counts_complete : CompleteAreCounted →
        CycleOf own inputs choice schedule (shown_by d order before inputs choice) (next_by d order before inputs choice) ↔ IsCounted (steps_by d order before inputs choice) schedule
    counts_complete law = law d order runs.apart.0 runs.apart.1 before inputs choice schedule runs.clocked runs.settles runs.apart.2 runs.apart.3 own_bits

    pub complete_is : CompleteAreCounted → IsCounted counts schedule → (shown : List ℕ) × (after : Store) × CycleOf m inputs choice schedule shown after
    complete_is law h =
        subst (λ (x : MachineValue). (shown : List ℕ) × (after : Store) × CycleOf x inputs choice schedule shown after) is (
          shown_by d order before inputs choice,
          next_by d order before inputs choice,
          (counts_complete law).1 (subst (λ (ns : List ℕ). IsCounted ns schedule) counts_by h),
        )

    pub incomplete_is : IncompleteAreCounted → (index : ℕ) → IsShortAt counts schedule index → IsIncompleteAt (design_in m.core) m.store inputs choice schedule index
    incomplete_is law index h =
        subst (λ (x : MachineValue). IsIncompleteAt (design_in x.core) x.store inputs choice schedule index) is
        ((law d order runs.apart.0 runs.apart.1 before inputs choice schedule runs.clocked runs.settles runs.apart.2 runs.apart.3 index).1
        (subst (λ (ns : List ℕ). IsShortAt ns schedule index) counts_by h))

    pub refused_is : CyclesInAnyOrder → CompleteAreCounted → (index : ℕ) → IsShortAt counts schedule index →
        (shown : List ℕ) (after : Store) → CycleOf m inputs choice schedule shown after → ⊥
    refused_is any law index h =
        subst (λ (x : MachineValue). (shown : List ℕ) (after : Store) → CycleOf x inputs choice schedule shown after → ⊥) is
        (λ shown after cycle.
        let one = (any_own any).every schedule shown after tt cycle in
        not_both (steps_by d order before inputs choice) schedule index
        ((counts_complete law).0
        (subst (λ (n : Store). CycleOf own inputs choice schedule (shown_by d order before inputs choice) n) one.1
        (subst (λ (s : List ℕ). CycleOf own inputs choice schedule s after) one.0 cycle)))
        (subst (λ (ns : List ℕ). IsShortAt ns schedule index) counts_by h))

-- where a cycle shows and leaves the same under every schedule, it does so under one that is complete
pub under_is : (m n : MachineValue) (inputs : List ℕ) (choice : List Bool) (schedule shown : List ℕ) (after : Store) → n ≡ m → OutcomeOf InAnyOrder n inputs choice shown after →
    (s : List ℕ) × (a : Store) × CycleOf m inputs choice schedule s a → CycleOf m inputs choice schedule shown after
under_is m n inputs choice schedule shown after same every some =
    let one = (subst (λ (x : MachineValue). OutcomeOf InAnyOrder x inputs choice shown after) same every).every schedule some.0 some.1 tt some.2 in
    subst (λ (a : Store). CycleOf m inputs choice schedule shown a) one.1 (subst (λ (s : List ℕ). CycleOf m inputs choice schedule s some.1) one.0 some.2)
