use Rattle.std.proofs.Common.{◌<◌, ◌^◌, subst}
use Rattle.lz_base.specs.WordValue.{WordValue}
use Rattle.v_run.proofs.Words.{keep_next}
use Rattle.v_run.proofs.widths.keep.Goals as goal

pub loop-word-preserved : goal.loop-word-preserved
loop-word-preserved c =
    keep_next c.args.words.now c.loop-word.word-index c.word-item.result c.loop-word-test.true c.word-item.is c.loop-word.invariant
    (subst (λ (w : WordValue). w.value < 2 ^ w.width) c.word.view_is c.word.invariant.2)
