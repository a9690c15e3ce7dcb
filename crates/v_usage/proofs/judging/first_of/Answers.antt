use Rattle.v_usage.proofs.Least.{least_next, least_end}
use Rattle.v_usage.proofs.judging.first_of.Goals as goal

pub loop-occurrence-preserved : goal.loop-occurrence-preserved
loop-occurrence-preserved c =
    least_next c.args.names.now c.args.rule c.args.all.now _ _ _ _ _ c.loop-occurrence-test.true c.occurrence-item.is c.in_ok-place.ensures c.lesser-first.ensures c.loop-occurrence.invariant

pub returns : goal.returns
returns c = least_end c.args.names.now c.args.rule c.args.all.now _ _ c.loop-occurrence-test.false c.loop-occurrence.invariant
