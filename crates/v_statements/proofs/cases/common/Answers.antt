use Rattle.v_statements.proofs.OpenLaws.{arm_behind, arms_behind}
use Rattle.v_statements.proofs.cases.common.Goals as goal

pub loop-arm-preserved : goal.loop-arm-preserved
loop-arm-preserved c = λ names.
    arm_behind names c.args.arms.now _ _ c.loop-arm.all _ _ c.loop-arm-test.true c.arm-item.is (c.with_label-all.ensures names) (c.loop-arm.invariant names)

pub returns : goal.returns
returns c = λ names. arms_behind names c.args.arms.now _ c.loop-arm.all _ c.loop-arm-test.false (c.loop-arm.invariant names)
