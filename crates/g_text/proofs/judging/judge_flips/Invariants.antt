use Rattle.std.proofs.Common.{◌≡◌, ◌+◌, drop, length, flat_map}
use Rattle.g_text.specs.Referred.{wrong_flips}
use Rattle.g_text.specs.Text.{flip_line}
use Rattle.g_text.proofs.judging.judge_flips.Given as goal

abbrev pub invariant-loop-flip : goal.invariant-loop-flip
invariant-loop-flip l = record {
  place : l.at + length (flat_map flip_line (drop l.flip-index l.flips)) ≡ l.initial.at + length (flat_map flip_line l.flips);
  wrong : wrong_flips l.count l.initial.at l.flips ≡ wrong_flips l.count l.at (drop l.flip-index l.flips);
}
