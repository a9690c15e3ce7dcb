use Rattle.v_weight.proofs.Turns.{compared_next, compared_ends}
use Rattle.v_weight.proofs.statements.weigh_items.Goals as goal

pub loop-x-preserved : goal.loop-x-preserved
loop-x-preserved c =
    compared_next c.args.names.now c.args.items.now _ _ _ _ _ _ c.loop-x-test.true c.x-item.is c.in_ok-one.ensures c.shared-all.ensures.stands c.loop-x.invariant

pub returns : goal.returns
returns c = compared_ends c.args.names.now c.args.items.now _ _ _ c.loop-x-test.false c.loop-x.invariant
