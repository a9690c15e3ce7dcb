use Rattle.std.proofs.Common.{◌≡◌, ◌+◌, drop, length, flat_map, List, ℕ}
use Rattle.lz_lines.specs.Shared.{input_line}
use Rattle.lz_base.specs.Met.{Met}
use Rattle.lz_lines.proofs.MetNames.{NamesGo}
use Rattle.lz_lines.proofs.judging.judge_inputs.Given as goal

abbrev pub invariant-loop-port : goal.invariant-loop-port
invariant-loop-port l = record {
  place : l.at + length (flat_map input_line (drop l.port-index l.ports)) ≡ l.initial.at + length (flat_map input_line l.ports);
  names : (names : List (List ℕ)) → Met l.initial.met names → NamesGo l.met l.at (drop l.port-index l.ports) names l.initial.at l.ports;
}
