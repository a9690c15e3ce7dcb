use Rattle.std.proofs.Common.{false, arith, refl}
use Rattle.v_values.proofs.Filling.{has_room, number_next, below_next}
use Rattle.v_values.proofs.setting.number.Goals as goal

pub with_bit-all-requires : goal.with_bit-all-requires
with_bit-all-requires c = has_room c.loop-bit.bit-index c.loop-bit.all (omega arith) c.loop-bit.invariant.below

pub loop-bit-preserved : goal.loop-bit-preserved
loop-bit-preserved c = record {
  value = number_next c.args.bits.now c.loop-bit.bit-index c.loop-bit.all _ _ false c.loop-bit-test.true refl c.loop-bit.invariant.value c.with_bit-all.ensures;
  below = below_next c.loop-bit.bit-index c.loop-bit.all _ _ c.loop-bit.invariant.below c.with_bit-all.ensures;
}
