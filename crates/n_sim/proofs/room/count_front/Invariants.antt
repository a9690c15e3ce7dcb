use Rattle.std.proofs.Common.{◌≡◌, ◌+◌, drop}
use Rattle.lz_circuit.specs.Lines.{port_bits}
use Rattle.n_sim.proofs.room.count_front.Given as goal

abbrev pub invariant-loop-port : goal.invariant-loop-port
invariant-loop-port l = l.count + port_bits (drop l.port-index l.port-items) ≡ 2 + port_bits l.port-items
