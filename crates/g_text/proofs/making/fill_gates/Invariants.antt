use Rattle.std.proofs.Common.{◌≡◌, ◌++◌, take, drop}
use Rattle.g_net.specs.Network.{node_count, ReadBackwards}
use Rattle.g_text.proofs.making.fill_gates.Given as goal

abbrev pub invariant-loop-gate : goal.invariant-loop-gate
invariant-loop-gate l = record {
  made : l.network ≡ record l.initial.network { gates = l.initial.network.gates ++ take l.gate-index l.gates };
  backwards : ReadBackwards (node_count l.network) (drop l.gate-index l.gates);
}
