use Rattle.std.proofs.Common.{◌≡◌, ◌+◌, ◌++◌, length, take, drop}
use Rattle.lz_base.specs.Bits.{words_bits}
use Rattle.n_sim.proofs.front.put_words.Given as goal

abbrev pub invariant-loop-word : goal.invariant-loop-word
invariant-loop-word l =
    (l.next + length (words_bits (drop l.word-index l.words)) ≡ l.initial.next + length (words_bits l.words))
    × (length l.nets ≡ length l.initial.nets)
    × (take l.next l.nets ++ words_bits (drop l.word-index l.words) ≡ take l.initial.next l.initial.nets ++ words_bits l.words)
