-- A byte more of a number that stops at the limit.
use Rattle.std.proofs.Common.{arith}
use Rattle.v_numbers.proofs.Digits.{capped_next}
use Rattle.v_numbers.proofs.decimal.decimal_up_to.Goals as goal

pub loop-byte-preserved : goal.loop-byte-preserved
loop-byte-preserved c = record {
  within = omega (arith, c.next-value.ensures);
  same = capped_next _ _ _ _ c.args.bytes.now c.loop-byte.byte-index c.loop-byte-test.true c.next-value.ensures c.loop-byte.invariant.same;
}
