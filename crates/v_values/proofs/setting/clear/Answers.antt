use Rattle.std.proofs.Common.{ap, ◌∙◌, arith, ◌<◌, length}
use Rattle.lz_base.specs.WordValue.{WordValue}
use Rattle.v_values.proofs.Changes.{widths_set}
use Rattle.v_values.proofs.Filling.{zeros_next}
use Rattle.v_values.proofs.setting.clear.Goals as goal

pub loop-i-preserved : goal.loop-i-preserved
loop-i-preserved c =
    let within : c.loop-i.i < length c.loop-i.words = omega (arith, c.loop-i.auto.words) in
    record {
      values = zeros_next c.loop-i.words c.loop-i.i c.new.result within (ap (λ (w : WordValue). w.value) c.new.ensures) c.loop-i.invariant.values;
      widths = widths_set c.loop-i.words c.loop-i.i c.new.result c.index-words-i.result within
          (ap (λ (w : WordValue). w.width) (c.new.ensures) ∙ ap (λ (w : WordValue). w.width) (c.word.view_is ∙ c.index-words-i.is)) ∙ c.loop-i.invariant.widths;
    }
