use Rattle.std.proofs.Common.{◌≡◌, ◌+◌, length, drop}
use Rattle.lz_circuit.specs.Lines.{port_bits}
use Rattle.s_flow.proofs.turns.room.Given as goal

abbrev pub invariant-loop-port : goal.invariant-loop-port
invariant-loop-port l = length l.lanes.items + port_bits (drop l.port-index l.ports) ≡ port_bits l.ports

abbrev pub invariant-loop : goal.invariant-loop
invariant-loop l = length l.lanes.items ≡ length l.initial.lanes.items + l.counter
