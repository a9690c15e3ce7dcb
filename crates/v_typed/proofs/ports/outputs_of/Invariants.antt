use Rattle.std.proofs.Common.{◌≡◌, ◌++◌, map, drop}
use Rattle.v_meaning.specs.Names.{entry_of}
use Rattle.v_meaning.specs.Modules.{output_names}
use Rattle.v_core.specs.Values.{entry_at}
use Rattle.v_typed.proofs.ports.outputs_of.Given as goal

abbrev pub invariant-loop-group : goal.invariant-loop-group
invariant-loop-group l =
    map (entry_at l.names) l.numbers ++ map (entry_of l.names) (output_names (drop l.group-index l.groups)) ≡ map (entry_of l.names) (output_names l.groups)
