use Rattle.std.proofs.Common.{ap, ◌∙◌, arith, ◌<◌, length}
use Rattle.lz_base.specs.WordValue.{WordValue}
use Rattle.v_meaning.specs.Designs.{total}
use Rattle.v_values.proofs.Changes.{widths_set}
use Rattle.v_values.proofs.Filling.{width_left, words_next}
use Rattle.v_values.proofs.setting.put_bits.Goals as goal

pub split_at-requires : goal.split_at-requires
split_at-requires c =
    let within : c.loop-i.i < length c.loop-i.words = omega (arith, c.loop-i.auto.words) in
    omega (
      arith,
      c.loop-i.invariant.bits,
      ap (λ (w : WordValue). w.width) (c.word.view_is ∙ c.index-words-i.is),
      ap total (width_left c.args.words.now c.loop-i.words c.loop-i.i c.index-words-i.result within c.loop-i.invariant.widths),
    )

pub loop-i-preserved : goal.loop-i-preserved
loop-i-preserved c =
    let within : c.loop-i.i < length c.loop-i.words = omega (arith, c.loop-i.auto.words) in
    let next = width_left c.args.words.now c.loop-i.words c.loop-i.i c.index-words-i.result within c.loop-i.invariant.widths in
    record {
      bits = omega (arith, c.loop-i.invariant.bits, ap (λ (w : WordValue). w.width) (c.word.view_is ∙ c.index-words-i.is), ap total next, c.split_at.ensures.back_len);
      values = words_next c.loop-i.words c.loop-i.i c.new.result _ _ _ _ _ _ _ _ within next (ap (λ (w : WordValue). w.width) (c.word.view_is ∙ c.index-words-i.is))
          (ap (λ (w : WordValue). w.value) c.new.ensures ∙ c.number.ensures.value) c.split_at.ensures.front c.split_at.ensures.back c.loop-i.invariant.values;
      widths = widths_set c.loop-i.words c.loop-i.i c.new.result c.index-words-i.result within
          (ap (λ (w : WordValue). w.width) (c.new.ensures) ∙ ap (λ (w : WordValue). w.width) (c.word.view_is ∙ c.index-words-i.is)) ∙ c.loop-i.invariant.widths;
    }
