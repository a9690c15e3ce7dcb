use Rattle.std.proofs.Common.{◌<◌, length, ap, sym, ◌∙◌, ◌++◌, take, drop, ◌+◌, append_assoc, arith}
use Rattle.lz_base.specs.Bits.{word_bits, words_bits}
use Rattle.n_sim.proofs.Words.{words_on, words_length}
use Rattle.n_sim.proofs.front.put_words.Goals as goal

pub put_word-next-requires : goal.put_word-next-requires
put_word-next-requires c =
    let lt : c.loop-word.word-index < length c.args.words.now = omega arith in
    omega (arith, words_length c.args.words.now c.loop-word.word-index c.word-item.result c.word-item.is lt)

pub loop-word-preserved : goal.loop-word-preserved
loop-word-preserved c =
    let lt : c.loop-word.word-index < length c.args.words.now = omega arith in
    let bits = words_bits (drop (c.loop-word.word-index + 1) c.args.words.now) in (
      omega (arith, words_length c.args.words.now c.loop-word.word-index c.word-item.result c.word-item.is lt),
      omega arith,
      ap (λ l. l ++ bits) c.put_word-next.ensures.values ∙ append_assoc (take c.loop-word.next c.loop-word.nets) (word_bits c.word-item.result) bits
          ∙ ap (λ l. take c.loop-word.next c.loop-word.nets ++ l) (sym (words_on c.args.words.now c.loop-word.word-index c.word-item.result c.word-item.is lt)) ∙ c.loop-word.invariant.2,
    )
