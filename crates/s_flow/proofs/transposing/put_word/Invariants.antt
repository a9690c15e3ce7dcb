use Rattle.std.proofs.Common.{◌≡◌, ◌≢◌, ◌<◌, ◌+◌, ◌-◌, ◌++◌, ℕ, length, take}
use Rattle.lz_base.specs.Bits.{low_bits}
use Rattle.n_sim.specs.Lanes.{stream}
use Rattle.s_flow.proofs.transposing.put_word.Given as goal

abbrev pub invariant-loop : goal.invariant-loop
invariant-loop l = record {
  next : l.next ≡ l.initial.next + l.counter;
  long : length l.lanes ≡ length l.initial.lanes;
  own : take l.next (stream l.index l.lanes) ++ low_bits (l.width - l.counter) l.value ≡ take l.initial.next (stream l.index l.initial.lanes) ++ low_bits l.width l.initial.value;
  others : (other : ℕ) → other < 64 → other ≢ l.index → stream other l.lanes ≡ stream other l.initial.lanes;
}
