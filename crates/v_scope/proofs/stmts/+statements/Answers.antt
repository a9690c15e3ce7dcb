use Rattle.v_scope.proofs.Adding.{none_more, same_end, then_end, three_end, then_more, each_next, each_ends}
use Rattle.v_scope.proofs.StmtMarks.{when_null, when_block, when_if, when_if_else, when_case, when_assign, arm_next, arms_end}
use Rattle.std.proofs.Common.{refl}
use Rattle.v_scope.proofs.stmts.+statements.Goals as goal

pub add_stmt-returns-in-Null : goal.add_stmt-returns-in-Null
add_stmt-returns-in-Null t c = none_more _ _ (when_null _ c.in-Null.is)

pub add_stmt-returns-in-Block : goal.add_stmt-returns-in-Block
add_stmt-returns-in-Block t c = same_end c.add_stmts.result _ _ _ _ (when_block _ _ _ c.in-Block.is c.as_slice.ensures) c.add_stmts.ensures

pub add_stmt-returns-in_ok-add_expr-in-If : goal.add_stmt-returns-in_ok-add_expr-in-If
add_stmt-returns-in_ok-add_expr-in-If t c = then_end c.add_stmt.result _ _ _ _ _ _ (when_if _ _ _ _ c.in-If.is c.get.ensures) c.in_ok-add_expr-in-If.ensures c.add_stmt.ensures

pub add_stmt-returns-in_ok-add_stmt-in-IfElse : goal.add_stmt-returns-in_ok-add_stmt-in-IfElse
add_stmt-returns-in_ok-add_stmt-in-IfElse t c =
    three_end c.add_stmt-in-IfElse-2.result _ _ _ _ _ _ _ _ (when_if_else _ _ _ _ _ _ c.in-IfElse.is c.get-in-IfElse.ensures c.get-in-IfElse-2.ensures)
    c.in_ok-add_expr-in-IfElse.ensures c.in_ok-add_stmt-in-IfElse.ensures c.add_stmt-in-IfElse-2.ensures

pub add_stmt-returns-in_ok-add_expr-in-Case : goal.add_stmt-returns-in_ok-add_expr-in-Case
add_stmt-returns-in_ok-add_expr-in-Case t c =
    then_end c.add_arms.result _ _ _ _ _ _ (when_case _ _ _ _ _ c.in-Case.is c.as_slice-in-Case.ensures) c.in_ok-add_expr-in-Case.ensures c.add_arms.ensures

pub add_stmt-returns-in_ok-add_target-in-Assign : goal.add_stmt-returns-in_ok-add_target-in-Assign
add_stmt-returns-in_ok-add_target-in-Assign t c =
    then_end c.add_expr-in-Assign.result _ _ _ _ _ _ (when_assign _ _ _ _ _ c.in-Assign.is c.get-in-Assign.ensures) c.in_ok-add_target-in-Assign.ensures c.add_expr-in-Assign.ensures

pub add_stmts-loop-statement-preserved : goal.add_stmts-loop-statement-preserved
add_stmts-loop-statement-preserved t c = each_next _ _ _ _ _ _ _ c.loop-statement-test.true c.statement-item.is c.in_ok-add_stmt.ensures c.loop-statement.invariant

pub add_stmts-returns : goal.add_stmts-returns
add_stmts-returns t c = each_ends _ _ _ _ _ c.loop-statement-test.false c.loop-statement.invariant

pub add_arms-loop-arm-preserved : goal.add_arms-loop-arm-preserved
add_arms-loop-arm-preserved t c =
    arm_next _ _ _ _ _ _ _ _ _ c.loop-arm-test.true c.arm-item.is c.default_met-met.ensures (then_more _ _ _ _ _ _ (λ names. refl) c.in_ok-add_label.ensures c.in_ok-add_stmt.ensures) c.loop-arm.invariant

pub add_arms-returns : goal.add_arms-returns
add_arms-returns t c = arms_end _ _ _ _ _ _ c.loop-arm-test.false c.loop-arm.invariant
