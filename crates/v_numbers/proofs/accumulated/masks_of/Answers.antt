-- A byte more of the three masks, and their end.
use Rattle.std.proofs.Common.{◌%◌, ◌^◌, ap, ◌∙◌}
use Rattle.v_meaning.specs.Literals.{digit_value, digits_in, is_x, is_z, number_behind}
use Rattle.v_numbers.specs.Ones.{ones_where}
use Rattle.v_numbers.proofs.Digits.{wrapped_next, wrapped_end}
use Rattle.v_numbers.proofs.accumulated.masks_of.Goals as goal

pub loop-byte-preserved : goal.loop-byte-preserved
loop-byte-preserved c = record {
  ones = wrapped_next _ _ _ _ _ digit_value c.args.bytes.now c.loop-byte.byte-index c.loop-byte-test.true c.next-masks.ensures.ones c.loop-byte.invariant.ones;
  unknown = wrapped_next _ _ _ _ _ (ones_where is_x c.args.base.bits) c.args.bytes.now c.loop-byte.byte-index c.loop-byte-test.true c.next-masks.ensures.unknown c.loop-byte.invariant.unknown;
  impedance = wrapped_next _ _ _ _ _ (ones_where is_z c.args.base.bits) c.args.bytes.now c.loop-byte.byte-index c.loop-byte-test.true c.next-masks.ensures.impedance c.loop-byte.invariant.impedance;
}

pub returns : goal.returns
returns c = record {
  ones = wrapped_end _ _ _ _ digit_value c.args.bytes.now c.loop-byte.byte-index c.loop-byte-test.false c.loop-byte.invariant.ones
      ∙ ap (λ s. number_behind s c.args.base.radix digit_value (digits_in c.args.bytes.now) % 2 ^ 128) c.above-masks.ensures.ones;
  unknown = wrapped_end _ _ _ _ (ones_where is_x c.args.base.bits) c.args.bytes.now c.loop-byte.byte-index c.loop-byte-test.false c.loop-byte.invariant.unknown
      ∙ ap (λ s. number_behind s (2 ^ c.args.base.bits) (ones_where is_x c.args.base.bits) (digits_in c.args.bytes.now) % 2 ^ 128) c.above-masks.ensures.unknown;
  impedance = wrapped_end _ _ _ _ (ones_where is_z c.args.base.bits) c.args.bytes.now c.loop-byte.byte-index c.loop-byte-test.false c.loop-byte.invariant.impedance
      ∙ ap (λ s. number_behind s (2 ^ c.args.base.bits) (ones_where is_z c.args.base.bits) (digits_in c.args.bytes.now) % 2 ^ 128) c.above-masks.ensures.impedance;
}
