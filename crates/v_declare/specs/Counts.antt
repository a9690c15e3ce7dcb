-- How many of the declared names there are of each kind.
use Rattle.std.specs.Prelude.{◌≡◌, List}
use Rattle.v_meaning.specs.declared.names.Entry.{Entry}
use Rattle.v_meaning.specs.Declarations.{is_input, is_settled, is_variable, is_memory, count_of}
use Rattle.v_declare.specs.declared.counts.Counts.{Counts}

pub record AreCounts (counts : Counts) (names : List Entry) : Type 0 where
  pub inputs : counts.inputs ≡ count_of is_input names
  pub settled : counts.settled ≡ count_of is_settled names
  pub variables : counts.variables ≡ count_of is_variable names
  pub memories : counts.memories ≡ count_of is_memory names
