-- What the words of a module are before the first cycle, name by name (1364-2005, 6.2.1). No public clause names these.
-- They are shown to be `first_store`.
use Rattle.std.specs.Prelude.{ℕ, ◌*◌, List, [], ◌∷◌, ◌++◌, Bool, true, false, Option, None, Some, replicate, reverse, take}
use Rattle.lz_base.specs.Bits.{number_of}
use Rattle.v_meaning.specs.Designs.{words_from}
use Rattle.v_meaning.specs.Declarations.{is_input, is_settled, is_variable}
use Rattle.v_meaning.specs.Views.{Store}
use Rattle.v_meaning.specs.declared.names.Kind.{Kind}
use Rattle.v_meaning.specs.declared.names.Kind.TheVariants.{Memory}
use Rattle.v_meaning.specs.declared.names.Entry.{Entry}
use Rattle.v_values.specs.Moments.{MomentValue}
use Rattle.v_machine.specs.declared.making.Group.{Group}
use Rattle.v_machine.specs.declared.making.Group.TheVariants.{Inputs, Nets}

abbrev pub is_in : Group → Kind → Bool
is_in Inputs = is_input
is_in Nets = is_settled

-- how many words a memory has
abbrev pub count_in : Kind → Option ℕ
count_in (Memory n low count) = Some count
count_in _ = None

-- the value of a variable, and how many bits of a first choice it takes
abbrev pub first_value : Option ℕ → ℕ → List Bool → ℕ
first_value None width bits = number_of (reverse (take width bits))
first_value (Some value) width bits = value

abbrev pub open_bits : Option ℕ → ℕ → ℕ
open_bits None width = width
open_bits (Some value) width = 0

-- one more variable or memory
abbrev pub with_one : ℕ → Store → Store
with_one value s = record { variables = s.variables ++ value ∷ []; memories = s.memories }

abbrev pub with_words : List ℕ → Store → Store
with_words words s = record { variables = s.variables; memories = s.memories ++ words ∷ [] }

-- what a variable, a memory of so many words, and another name add to a moment
abbrev pub added_as : Bool → Option ℕ → Entry → List Bool → MomentValue → MomentValue
added_as true count e bits m = record {
  view = record m.view { store = with_one (first_value e.first e.width bits) m.view.store };
  shape = record m.shape { variables = m.shape.variables ++ e.width ∷ [] };
}
added_as false (Some count) e bits m = record {
  view = record m.view { store = with_words (words_from (replicate count e.width) bits) m.view.store };
  shape = record m.shape { memories = m.shape.memories ++ e.width ∷ []; counts = m.shape.counts ++ count ∷ [] };
}
added_as false None e bits m = m

abbrev pub bits_as : Bool → Option ℕ → Entry → ℕ
bits_as true count e = open_bits e.first e.width
bits_as false (Some count) e = count * e.width
bits_as false None e = 0

abbrev pub added : Entry → List Bool → MomentValue → MomentValue
added e = added_as (is_variable e.kind) (count_in e.kind) e

abbrev pub bits_of : Entry → ℕ
bits_of e = bits_as (is_variable e.kind) (count_in e.kind) e
