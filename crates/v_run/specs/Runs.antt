-- What the run of a design shows over a stimulus, where the bits that are left open are chosen and the processes take their
-- steps under schedules (1364-2005, 9.9.2 and 11).
use Rattle.std.specs.Prelude.{◌≡◌, ℕ, ◌<◌, List, [], ◌∷◌, length, map, take, get_or, Bool}
use Rattle.lz_base.specs.WordValue.{WordValue}
use Rattle.lz_base.specs.declared.fault.Fault.{Fault}
use Rattle.lz_base.specs.declared.rule.Rule.TheVariants.{S1}
use Rattle.lz_lines.specs.Fields.{Each}
use Rattle.t_choices.specs.Places.{place_of}
use Rattle.t_choices.specs.declared.choice_texts.Choices.{Choices}
use Rattle.v_meaning.specs.Designs.{Design, InAnyOrder, InTextOrder, IsCycle, IsIncompleteAt, Turn, first_store, port_words, word_values}
use Rattle.v_meaning.specs.Views.{Store}

-- The cycles of turns lead from one store to another.
abbrev pub Leads : Design → Store → List Turn → Store → Type 0
Leads d before [] last = before ≡ last
Leads d before (t ∷ turns) last = (after : Store) × IsCycle d before t.inputs t.choice t.schedule t.shown after × Leads d after turns last

-- A run from one store to another: one turn for each line of the stimulus, of the choices, of the schedules and of the trace.
pub record RunsTo (d : Design) (first : Store) (choices : List (List Bool)) (schedules : List (List ℕ)) (stimulus trace : List (List WordValue)) (last : Store) : Type 0 where
  pub turns : List Turn
  pub inputs : map (λ (t : Turn). t.inputs) turns ≡ map word_values stimulus
  pub chosen : map (λ (t : Turn). t.choice) turns ≡ choices
  pub ordered : map (λ (t : Turn). t.schedule) turns ≡ schedules
  pub shown : map (λ (t : Turn). port_words d.outputs t.shown) turns ≡ trace
  pub leads : Leads d first turns last

-- Under these schedules, of which each is complete in its cycle, the run from the first store of the choices shows the trace.
abbrev pub RunsBy : List (List ℕ) → Design → Choices → List (List WordValue) → List (List WordValue) → Type 0
RunsBy schedules d choices stimulus trace = (last : Store) × RunsTo d (first_store d.firsts choices.first) choices.cycles schedules stimulus trace last

-- Some allowed schedules, each complete in its cycle, show the trace, and all others that are allowed and complete show it too.
pub record RunsUnder (Allowed : List ℕ → Type 0) (d : Design) (choices : Choices) (stimulus trace : List (List WordValue)) : Type 0 where
  pub some : (schedules : List (List ℕ)) × Each Allowed schedules × RunsBy schedules d choices stimulus trace
  pub every : (schedules : List (List ℕ)) (other : List (List WordValue)) → Each Allowed schedules → RunsBy schedules d choices stimulus other → other ≡ trace

-- where in each cycle the processes take their steps in text order
abbrev pub RunsInTextOrder : Design → Choices → List (List WordValue) → List (List WordValue) → Type 0
RunsInTextOrder = RunsUnder InTextOrder

-- where in each cycle they take them in any order
abbrev pub RunsInAnyOrder : Design → Choices → List (List WordValue) → List (List WordValue) → Type 0
RunsInAnyOrder = RunsUnder InAnyOrder

-- The first cycle whose schedule is not complete, and the number of the entry at which it is not.
pub record HaltsBy (schedules : List (List ℕ)) (d : Design) (choices : Choices) (stimulus : List (List WordValue)) (cycle index : ℕ) : Type 0 where
  pub within : cycle < length stimulus
  pub shown : List (List WordValue)
  pub last : Store
  pub runs : RunsTo d (first_store d.firsts choices.first) (take cycle choices.cycles) (take cycle schedules) (take cycle stimulus) shown last
  pub incomplete : IsIncompleteAt d last (word_values (get_or stimulus cycle [])) (get_or choices.cycles cycle []) (get_or schedules cycle []) index

-- S1 at the place of that entry
pub record IsHalted (schedules : List (List ℕ)) (d : Design) (choices : Choices) (stimulus : List (List WordValue)) (fault : Fault) : Type 0 where
  pub cycle : ℕ
  pub index : ℕ
  pub halts : HaltsBy schedules d choices stimulus cycle index
  pub fault_is : fault ≡ record { rule = S1; at = place_of schedules cycle index }
