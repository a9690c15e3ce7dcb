use Rattle.std.proofs.Common.{◌<◌, length, arith, take, ◌∙◌}
use Rattle.n_sim.specs.Lanes.{stream}
use Rattle.s_flow.proofs.Streams.{words_length, word_put}
use Rattle.s_flow.proofs.transposing.put_words.Goals as goal

pub put_word-next-requires-clause-room : goal.put_word-next-requires-clause-room
put_word-next-requires-clause-room c =
    let lt : c.loop-word.word-index < length c.args.words.now = omega arith in
    omega (arith, words_length c.args.words.now c.loop-word.word-index c.word-item.result c.word-item.is lt)

pub loop-word-preserved : goal.loop-word-preserved
loop-word-preserved c =
    let lt : c.loop-word.word-index < length c.args.words.now = omega arith in
    record {
      long = omega arith;
      room = omega (arith, words_length c.args.words.now c.loop-word.word-index c.word-item.result c.word-item.is lt);
      own = word_put c.args.words.now c.loop-word.word-index c.word-item.result _ _ _ c.word-item.is lt c.put_word-next.ensures.own c.loop-word.invariant.own;
      others = λ other below ne. c.put_word-next.ensures.others other below ne ∙ c.loop-word.invariant.others other below ne;
    }
