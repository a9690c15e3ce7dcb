use Rattle.std.proofs.Common.{arith, rules}
use Rattle.g_arith.proofs.Adder.{sum_more}
use Rattle.g_arith.proofs.Growth.{adds_more, one_there}
use Rattle.g_arith.proofs.sums.sum.Goals as goal

pub carry-requires-clause-first : goal.carry-requires-clause-first
carry-requires-clause-first g c = one_there _ _ c.args.x.now c.loop-i.i c.loop-i.invariant.adds c.requires.first c.loop-i-test.true

pub carry-requires-clause-second : goal.carry-requires-clause-second
carry-requires-clause-second g c = one_there _ _ c.args.y.now c.loop-i.i c.loop-i.invariant.adds c.requires.second (omega arith)

pub returns-in_err-push-clause-adds : goal.returns-in_err-push-clause-adds
returns-in_err-push-clause-adds g c = adds_more _ _ _ c.loop-i.invariant.adds c.in_ok-bit.ensures.builds c.in_ok-bit.ensures.differ

pub loop-i-preserved : goal.loop-i-preserved
loop-i-preserved g c = record {
  sum = rw c.in_ok-push.ensures.ok
      (sum_more _ _ _ c.args.x.now c.args.y.now c.args.carry c.loop-i.i _ _ _ _ c.loop-i.invariant.adds c.in_ok-bit.ensures.builds c.loop-i-test.true c.requires.same_width c.requires.first c.requires.second
      c.loop-i.invariant.sum c.in_ok-bit.ensures.sum c.in_ok-bit.ensures.majority);
  adds = adds_more _ _ _ c.loop-i.invariant.adds c.in_ok-bit.ensures.builds c.in_ok-bit.ensures.differ;
  book = search rules;
}
