use Rattle.std.proofs.Common.{◌<◌, subst, ℕ}
use Rattle.std.specs.Prelude.{◌^◌}
use Rattle.v_machine.proofs.FirstWords.{word_next}
use Rattle.v_machine.proofs.making.first_words.Goals as goal

pub loop-preserved : goal.loop-preserved
loop-preserved c =
    word_next c.args.width c.args.count c.loop.counter c.args.bits.now c.loop.words.items _ c.loop.left.now _ _ c.number.result c.loop-test.true c.split_at.ensures.front
    c.split_at.ensures.back c.number.ensures.value (subst (λ (w : ℕ). c.number.result < 2 ^ w) c.split_at.ensures.front_len c.number.ensures.below) c.in_ok-push.ensures.items
    c.loop.invariant
