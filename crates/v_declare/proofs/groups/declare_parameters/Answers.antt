use Rattle.v_declare.proofs.Walking.{fails, same_stop, stops_behind, behind_none, along_begins, along_next, along_stops, along_ends, along_behind}
use Rattle.std.proofs.Common.{refl, ◌∙◌}
use Rattle.v_declare.proofs.Made.{shape_more}
use Rattle.v_declare.proofs.GroupFaults.{parameters_along}
use Rattle.v_declare.proofs.groups.declare_parameters.Goals as goal

pub loop-setting-init : goal.loop-setting-init
loop-setting-init c = record { along = along_begins _ _ _ _; shape = c.in_ok-shape.ensures.shape }

pub loop-setting-preserved : goal.loop-setting-preserved
loop-setting-preserved c = record {
  along = along_next _ _ _ _ _ _ _ _ c.loop-setting-test.true c.setting-item.is c.in_ok-declare_setting.ensures.judged c.in_ok-declare_setting.ensures.behind c.loop-setting.invariant.along;
  shape = rw c.in_ok-declare_setting.ensures.behind (shape_more _ _ _ _ c.loop-setting.invariant.shape);
}

pub returns-in_err-declare_setting-clause-judged : goal.returns-in_err-declare_setting-clause-judged
returns-in_err-declare_setting-clause-judged c =
    fails c.from_residual-in_err-declare_setting.result _ _ c.from_residual-in_err-declare_setting.ensures.1
    (same_stop _ _ _ (parameters_along c.args.names.now c.args.group.now _ c.as_slice-settings.ensures)
    (stops_behind _ _ _ _ refl c.in_ok-shape.ensures.judged
    (along_stops _ _ _ _ _ _ _ _ c.loop-setting-test.true c.setting-item.is c.in_err-declare_setting.ensures.judged c.loop-setting.invariant.along)))

pub returns-clause-judged : goal.returns-clause-judged
returns-clause-judged c =
    parameters_along c.args.names.now c.args.group.now _ c.as_slice-settings.ensures ∙ behind_none _ _ _ refl c.in_ok-shape.ensures.judged ∙ along_ends _ _ _ _ _ _ c.loop-setting-test.false c.loop-setting.invariant.along

pub returns-clause-behind : goal.returns-clause-behind
returns-clause-behind c = rw (← c.as_slice-settings.ensures) (along_behind _ _ _ _ _ _ c.loop-setting-test.false c.loop-setting.invariant.along)
