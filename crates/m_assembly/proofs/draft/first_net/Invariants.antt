use Rattle.std.proofs.Common.{◌≡◌, ◌+◌, drop}
use Rattle.lz_circuit.specs.Lines.{port_bits}
use Rattle.m_assembly.proofs.draft.first_net.Given as goal

abbrev pub invariant-loop-port : goal.invariant-loop-port
invariant-loop-port l = l.next + port_bits (drop l.port-index l.network.inputs) ≡ 2 + port_bits l.network.inputs
