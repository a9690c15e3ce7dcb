use Rattle.std.proofs.Common.{◌≡◌, ◌≢◌, ◌<◌, ◌+◌, ◌++◌, ℕ, length, take, drop}
use Rattle.lz_base.specs.Bits.{words_bits}
use Rattle.n_sim.specs.Lanes.{stream}
use Rattle.s_flow.proofs.transposing.put_words.Given as goal

abbrev pub invariant-loop-word : goal.invariant-loop-word
invariant-loop-word l = record {
  long : length l.lanes ≡ length l.initial.lanes;
  room : l.next + length (words_bits (drop l.word-index l.words)) ≡ length l.lanes;
  own : take l.next (stream l.index l.lanes) ++ words_bits (drop l.word-index l.words) ≡ words_bits l.words;
  others : (other : ℕ) → other < 64 → other ≢ l.index → stream other l.lanes ≡ stream other l.initial.lanes;
}
