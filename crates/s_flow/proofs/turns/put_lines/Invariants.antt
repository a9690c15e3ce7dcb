use Rattle.std.proofs.Common.{◌≡◌, ◌<◌, ℕ, List, length, slice_get, Some}
use Rattle.lz_base.specs.Bits.{words_bits}
use Rattle.lz_base.specs.WordValue.{WordValue}
use Rattle.n_sim.specs.Lanes.{stream}
use Rattle.s_flow.proofs.turns.put_lines.Given as goal

abbrev pub invariant-loop-index : goal.invariant-loop-index
invariant-loop-index l = record {
  long : length l.lanes ≡ length l.initial.lanes;
  put : (j : ℕ) (line : List WordValue) → j < l.index → slice_get l.lines j ≡ Some line → stream j l.lanes ≡ words_bits line;
}
