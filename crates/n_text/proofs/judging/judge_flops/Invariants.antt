use Rattle.std.proofs.Common.{◌≡◌, ◌+◌, drop, length, flat_map}
use Rattle.n_cells.specs.Text.{flop_line}
use Rattle.n_text.specs.Referred.{wrong_flops}
use Rattle.n_text.proofs.judging.judge_flops.Given as goal

abbrev pub invariant-loop-flop : goal.invariant-loop-flop
invariant-loop-flop l = record {
  place : l.at + length (flat_map (flop_line l.format) (drop l.flop-index l.flops)) ≡ l.initial.at + length (flat_map (flop_line l.format) l.flops);
  wrong : wrong_flops l.format l.count l.initial.at l.flops ≡ wrong_flops l.format l.count l.at (drop l.flop-index l.flops);
}
