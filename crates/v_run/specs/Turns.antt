-- What one cycle of a run does, and how far a run has come. No public clause names these.
use Rattle.std.specs.Prelude.{◌≡◌, ℕ, List, [], ◌∷◌, map, get_or, Bool}
use Rattle.lz_base.specs.WordValue.{WordValue}
use Rattle.lz_base.specs.declared.fault.Fault.{Fault}
use Rattle.lz_base.specs.declared.rule.Rule.TheVariants.{S1}
use Rattle.t_choices.specs.Places.{place_of}
use Rattle.v_meaning.specs.Designs.{Design, InTextOrder, IsCycle, IsIncompleteAt, Turn, port_words, word_values}
use Rattle.v_meaning.specs.Views.{Store}

-- Under every schedule that is complete the cycle shows and leaves this.
abbrev pub IsCertain : Design → Store → List ℕ → List Bool → List ℕ → Store → Type 0
IsCertain d before inputs choice shown after =
    (schedule other : List ℕ) (next : Store) → IsCycle d before inputs choice schedule other next → (other ≡ shown) × (next ≡ after)

-- From this store, with these words at the inputs and under this choice, a cycle under this schedule shows these words at the
-- outputs and goes on to that store; and so it does under every other schedule that is complete.
pub record Shows (schedule : List ℕ) (d : Design) (before : Store) (inputs : List WordValue) (choice : List Bool) (words : List WordValue) (after : Store) : Type 0 where
  pub shown : List ℕ
  pub words_are : words ≡ port_words d.outputs shown
  pub cycle : IsCycle d before (word_values inputs) choice schedule shown after
  pub certain : IsCertain d before (word_values inputs) choice shown after

-- where that schedule is in text order
abbrev pub ShowsInTextOrder : Design → Store → List WordValue → List Bool → List WordValue → Store → Type 0
ShowsInTextOrder d before inputs choice words after = (schedule : List ℕ) × InTextOrder schedule × Shows schedule d before inputs choice words after

-- The schedule of the cycle of this number is not complete.
pub record HaltsIn (schedules : List (List ℕ)) (d : Design) (before : Store) (inputs : List WordValue) (choice : List Bool) (number : ℕ) (fault : Fault) : Type 0 where
  pub index : ℕ
  pub incomplete : IsIncompleteAt d before (word_values inputs) choice (get_or schedules number []) index
  pub refused : (shown : List ℕ) (after : Store) → IsCycle d before (word_values inputs) choice (get_or schedules number []) shown after → ⊥
  pub fault_is : fault ≡ record { rule = S1; at = place_of schedules number index }

-- The cycles of turns lead from one store to another, and each is certain.
abbrev pub LeadsSurely : Design → Store → List Turn → Store → Type 0
LeadsSurely d before [] last = before ≡ last
LeadsSurely d before (t ∷ turns) last =
    (after : Store) × IsCycle d before t.inputs t.choice t.schedule t.shown after × IsCertain d before t.inputs t.choice t.shown after × LeadsSurely d after turns last

-- How far a run has come: these cycles were run, and each is certain.
pub record Reaches (d : Design) (first : Store) (choices : List (List Bool)) (schedules : List (List ℕ)) (stimulus trace : List (List WordValue)) (now : Store) : Type 0 where
  pub turns : List Turn
  pub inputs : map (λ (t : Turn). t.inputs) turns ≡ map word_values stimulus
  pub chosen : map (λ (t : Turn). t.choice) turns ≡ choices
  pub ordered : map (λ (t : Turn). t.schedule) turns ≡ schedules
  pub shown : map (λ (t : Turn). port_words d.outputs t.shown) turns ≡ trace
  pub leads : LeadsSurely d first turns now
