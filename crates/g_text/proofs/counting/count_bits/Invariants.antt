use Rattle.std.proofs.Common.{◌≡◌, ◌≤◌, ◌+◌, ◌*◌, drop}
use Rattle.lz_lines.specs.Fields.{Each}
use Rattle.lz_circuit.specs.Lines.{port_bits}
use Rattle.g_text.specs.Form.{IsPort}
use Rattle.g_text.proofs.counting.count_bits.Given as goal

abbrev pub invariant-loop-port : goal.invariant-loop-port
invariant-loop-port l = record {
  ports : Each IsPort (drop l.port-index l.ports);
  count : l.bits + port_bits (drop l.port-index l.ports) ≡ port_bits l.ports;
  bound : l.bits ≤ 128 * l.port-index;
}
