use Rattle.std.proofs.Common.{◌≡◌, ◌++◌, flat_map, take}
use Rattle.m_valid.specs.Nodes.{input_nodes}
use Rattle.m_valid.proofs.nodes.push_inputs.Given as goal

abbrev pub invariant-loop-port : goal.invariant-loop-port
invariant-loop-port l = l.all.items ≡ l.initial.all.items ++ flat_map input_nodes (take l.port-index l.ports)
