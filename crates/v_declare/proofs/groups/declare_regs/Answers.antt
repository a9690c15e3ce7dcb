use Rattle.v_declare.proofs.Walking.{fails, same_stop, stops_behind, behind_none, along_begins, along_next, along_stops, along_ends, along_behind}
use Rattle.std.proofs.Common.{refl, ◌∙◌}
use Rattle.v_declare.proofs.Made.{shape_more}
use Rattle.v_declare.proofs.GroupFaults.{regs_along}
use Rattle.v_declare.proofs.groups.declare_regs.Goals as goal

pub loop-variable-init : goal.loop-variable-init
loop-variable-init c = record { along = along_begins _ _ _ _; shape = c.in_ok-shape.ensures.shape }

pub loop-variable-preserved : goal.loop-variable-preserved
loop-variable-preserved c = record {
  along = along_next _ _ _ _ _ _ _ _ c.loop-variable-test.true c.variable-item.is c.in_ok-declare_variable.ensures.judged c.in_ok-declare_variable.ensures.behind c.loop-variable.invariant.along;
  shape = rw c.in_ok-declare_variable.ensures.behind (shape_more _ _ _ _ c.loop-variable.invariant.shape);
}

pub returns-in_err-declare_variable-clause-judged : goal.returns-in_err-declare_variable-clause-judged
returns-in_err-declare_variable-clause-judged c =
    fails c.from_residual-in_err-declare_variable.result _ _ c.from_residual-in_err-declare_variable.ensures.1
    (same_stop _ _ _ (regs_along c.args.roles.now c.args.names.now c.args.signed c.args.range.now c.args.variables.now)
    (stops_behind _ _ _ _ refl c.in_ok-shape.ensures.judged
    (along_stops _ _ _ _ _ _ _ _ c.loop-variable-test.true c.variable-item.is c.in_err-declare_variable.ensures.judged c.loop-variable.invariant.along)))

pub returns-clause-judged : goal.returns-clause-judged
returns-clause-judged c =
    regs_along c.args.roles.now c.args.names.now c.args.signed c.args.range.now c.args.variables.now ∙ behind_none _ _ _ refl c.in_ok-shape.ensures.judged ∙ along_ends _ _ _ _ _ _ c.loop-variable-test.false c.loop-variable.invariant.along

pub returns-clause-behind : goal.returns-clause-behind
returns-clause-behind c = along_behind _ _ _ _ _ _ c.loop-variable-test.false c.loop-variable.invariant.along
