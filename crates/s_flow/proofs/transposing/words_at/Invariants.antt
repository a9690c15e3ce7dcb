use Rattle.std.proofs.Common.{◌≡◌, ◌++◌, length, drop}
use Rattle.lz_circuit.specs.Lines.{HaveWidths, port_bits}
use Rattle.n_sim.specs.Lanes.{stream}
use Rattle.s_flow.specs.SideBySide.{words_at}
use Rattle.s_flow.proofs.transposing.words_at.Given as goal

abbrev pub invariant-loop-port : goal.invariant-loop-port
invariant-loop-port l = record {
  widths : HaveWidths (drop l.port-index l.ports);
  there : length l.rest ≡ port_bits (drop l.port-index l.ports);
  words : l.words.items ++ words_at (drop l.port-index l.ports) (stream l.index l.rest) ≡ words_at l.ports (stream l.index l.lanes);
}
