use Rattle.std.proofs.Common.{◌≡◌, ◌+◌, drop, length, flat_map}
use Rattle.g_net.specs.Network.{gate_nodes}
use Rattle.g_text.specs.Referred.{wrong_gates}
use Rattle.g_text.specs.Text.{gate_line}
use Rattle.g_text.proofs.judging.judge_gates.Given as goal

abbrev pub invariant-loop-gate : goal.invariant-loop-gate
invariant-loop-gate l = record {
  nodes : l.next + gate_nodes (drop l.gate-index l.gates) ≡ l.first + gate_nodes l.gates;
  place : l.at + length (flat_map gate_line (drop l.gate-index l.gates)) ≡ l.initial.at + length (flat_map gate_line l.gates);
  wrong : wrong_gates l.first l.initial.at l.gates ≡ wrong_gates l.next l.at (drop l.gate-index l.gates);
}
