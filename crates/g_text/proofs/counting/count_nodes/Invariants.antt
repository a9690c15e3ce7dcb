use Rattle.std.proofs.Common.{◌≡◌, ◌≤◌, ◌+◌, ◌*◌, drop}
use Rattle.g_net.specs.Network.{gate_nodes}
use Rattle.g_text.proofs.counting.count_nodes.Given as goal

abbrev pub invariant-loop-gate : goal.invariant-loop-gate
invariant-loop-gate l = record {
  count : l.nodes + gate_nodes (drop l.gate-index l.gates) ≡ gate_nodes l.gates;
  bound : l.nodes ≤ 2 * l.gate-index;
}
