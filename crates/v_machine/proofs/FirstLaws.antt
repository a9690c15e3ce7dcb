-- What names add to the words before the first cycle.
use Rattle.std.proofs.Common.{◌++◌, List}
use Rattle.v_meaning.specs.Declarations.{is_variable, is_memory}
use Rattle.v_meaning.specs.Views.{Store}
use Rattle.v_meaning.specs.declared.names.Entry.{Entry}
use Rattle.v_values.specs.Moments.{Shape}
use Rattle.v_machine.specs.Runnable.{memory_counts, widths_where}

-- a store, and behind it another
abbrev pub behind : Store → Store → Store
behind s t = record { variables = s.variables ++ t.variables; memories = s.memories ++ t.memories }

-- how many bits the words have to which those of the variables and memories among names are added
abbrev pub extended : Shape → List Entry → Shape
extended s names = record s { variables = s.variables ++ widths_where is_variable names; memories = s.memories ++ widths_where is_memory names; counts = s.counts ++ memory_counts names }
