use Rattle.std.proofs.Common.{◌≡◌, ◌<◌, ◌≤◌, ◌-◌, ◌^◌, length, drop}
use Rattle.lz_base.specs.Bits.{number_of}
use Rattle.n_sim.specs.Lanes.{stream}
use Rattle.s_flow.proofs.transposing.number_at.Given as goal

abbrev pub invariant-loop-i : goal.invariant-loop-i
invariant-loop-i l = record {
  within : l.i ≤ length l.lanes;
  number : l.number ≡ number_of (stream l.index (drop l.i l.lanes));
  fits : l.number < 2 ^ (length l.lanes - l.i);
}

abbrev pub decreases-loop-i : goal.decreases-loop-i
decreases-loop-i l = l.i
