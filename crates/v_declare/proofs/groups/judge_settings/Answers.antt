use Rattle.v_declare.specs.Groups.{setting_faults}
use Rattle.v_declare.proofs.Walking.{fails, left_next, left_stops, left_ends}
use Rattle.v_declare.proofs.groups.judge_settings.Goals as goal

pub loop-setting-preserved : goal.loop-setting-preserved
loop-setting-preserved c =
    left_next (setting_faults c.args.names.now) _ _ _ c.loop-setting-test.true c.setting-item.is c.in_ok-judge_expr.ensures c.loop-setting.invariant

pub returns-in_err-judge_expr : goal.returns-in_err-judge_expr
returns-in_err-judge_expr c =
    fails c.from_residual.result _ _ c.from_residual.ensures.1
    (left_stops (setting_faults c.args.names.now) _ _ _ _ c.loop-setting-test.true c.setting-item.is c.in_err-judge_expr.ensures c.loop-setting.invariant)

pub returns : goal.returns
returns c = left_ends _ _ _ c.loop-setting-test.false c.loop-setting.invariant
