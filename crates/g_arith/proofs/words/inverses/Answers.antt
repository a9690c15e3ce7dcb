use Rattle.g_arith.proofs.Adder.{inverse_more}
use Rattle.g_arith.proofs.words.inverses.Goals as goal

pub loop-literal-preserved : goal.loop-literal-preserved
loop-literal-preserved c = rw c.in_ok-push.ensures.ok
    (inverse_more c.inverted_values.ensures.value c.inverted_values.ensures.node c.args.word.now _ c.loop-literal.literal-index _ c.inverse.ensures c.loop-literal-test.true c.loop-literal.invariant)
