use Rattle.std.proofs.Common.{◌≡◌, ◌++◌, drop}
use Rattle.v_syntax.specs.Small.{register_names}
use Rattle.s_flow.specs.Made.{names_in}
use Rattle.s_flow.proofs.making.registers_of.Given as goal

abbrev pub invariant-loop-port : goal.invariant-loop-port
invariant-loop-port l = names_in l.names.items ++ register_names (drop l.port-index l.ports) ≡ register_names l.ports
