-- A small module as a machine, whose states are its stores.
use Rattle.std.specs.Prelude.{◌≡◌, ℕ, List, length, Bool, Some, ⊤}
use Rattle.lz_base.specs.WordValue.{WordValue}
use Rattle.lz_machine.specs.Machine.{Machine}
use Rattle.v_syntax.specs.declared.small.SmallModule.{SmallModule}
use Rattle.v_meaning.specs.Cycle.{inputs_of, outputs_of, clock_of, first_bits, first_store, cycle_bits, outputs_in, next_store, text_order, IsComplete}

-- the schedules that are allowed: every one
abbrev pub EverySchedule : SmallModule → List ℕ → Type 0
EverySchedule s schedule = ⊤

-- or the one in text order alone
abbrev pub TextOrder : SmallModule → List ℕ → Type 0
TextOrder s schedule = schedule ≡ text_order s

-- It begins in the first store of some choice, with a bit for each that the text leaves open.
pub record ModuleStarts (s : SmallModule) (store : List Bool) : Type 0 where
  pub first : List Bool
  pub bits : length first ≡ first_bits s
  pub store_is : store ≡ first_store s first

-- From this store, with these words at the inputs, some choice of the cycle lets it show these words and go on to this
-- store: in text order, and under every allowed schedule that is complete. So the choice comes before the schedules.
pub record ModuleDoes (Allowed : SmallModule → List ℕ → Type 0) (s : SmallModule) (store : List Bool) (inputs words : List WordValue) (next : List Bool) : Type 0 where
  pub choice : List Bool
  pub bits : length choice ≡ cycle_bits s
  pub shown : words ≡ outputs_in s store inputs choice
  pub by_text : next_store s store inputs choice (text_order s) ≡ Some next
  pub scheduled : (schedule : List ℕ) → Allowed s schedule → IsComplete s store inputs choice schedule → next_store s store inputs choice schedule ≡ Some next

abbrev pub module_machine : (SmallModule → List ℕ → Type 0) → SmallModule → Machine
module_machine Allowed s = record {
  State = List Bool;
  name = s.name.name;
  clock = clock_of s;
  inputs = inputs_of s;
  outputs = outputs_of s;
  Starts = ModuleStarts s;
  Does = ModuleDoes Allowed s;
}
