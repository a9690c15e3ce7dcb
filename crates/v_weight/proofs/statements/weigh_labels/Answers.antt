use Rattle.v_weight.proofs.StmtLaws.{labels_next, labels_end}
use Rattle.v_weight.proofs.statements.weigh_labels.Goals as goal

pub loop-arm-preserved : goal.loop-arm-preserved
loop-arm-preserved c = labels_next c.args.names.now c.args.arms.now _ _ _ _ _ c.loop-arm-test.true c.arm-item.is c.in_ok-all.ensures c.loop-arm.invariant

pub returns : goal.returns
returns c = labels_end c.args.names.now c.args.arms.now _ _ _ c.loop-arm-test.false c.loop-arm.invariant
