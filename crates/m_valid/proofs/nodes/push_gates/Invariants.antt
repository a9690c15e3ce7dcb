use Rattle.std.proofs.Common.{◌≡◌, ◌++◌, flat_map, take}
use Rattle.m_valid.specs.Nodes.{gate_nodes}
use Rattle.m_valid.proofs.nodes.push_gates.Given as goal

abbrev pub invariant-loop-gate : goal.invariant-loop-gate
invariant-loop-gate l = l.all.items ≡ l.initial.all.items ++ flat_map gate_nodes (take l.gate-index l.gates)
