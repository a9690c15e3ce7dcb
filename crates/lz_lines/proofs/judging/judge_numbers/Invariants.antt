use Rattle.std.proofs.Common.{◌≡◌, ◌+◌, drop, length, flat_map}
use Rattle.lz_lines.specs.Fields.{number}
use Rattle.lz_lines.specs.References.{wrong_numbers}
use Rattle.lz_lines.proofs.judging.judge_numbers.Given as goal

abbrev pub invariant-loop-n : goal.invariant-loop-n
invariant-loop-n l = record {
  place : l.at + length (flat_map number (drop l.n-index l.ns)) ≡ l.initial.at + length (flat_map number l.ns);
  wrong : wrong_numbers l.high l.initial.at l.ns ≡ wrong_numbers l.high l.at (drop l.n-index l.ns);
}
