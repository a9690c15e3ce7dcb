use Rattle.std.proofs.Common.{refl, ap, ◌∙◌}
use Rattle.v_declare.specs.Walks.{first_of}
use Rattle.v_declare.proofs.Walking.{same_answer, fails, stops_first, stops_behind, behind_none, answers_behind, left_next, left_stops, left_ends}
use Rattle.v_declare.proofs.StmtFaults.{when_null, when_block, when_if, when_if_else, when_case, when_assign}
use Rattle.v_declare.proofs.faults.+statements.Goals as goal

pub judge_stmt-returns-in-Null : goal.judge_stmt-returns-in-Null
judge_stmt-returns-in-Null t c = ap first_of (when_null _ _ c.in-Null.is)

pub judge_stmt-returns-in-Block : goal.judge_stmt-returns-in-Block
judge_stmt-returns-in-Block t c = same_answer c.judge_stmts.result _ _ (ap first_of (when_block _ _ _ _ c.in-Block.is c.as_slice.ensures)) c.judge_stmts.ensures

pub judge_stmt-returns-in_err-judge_expr-in-If : goal.judge_stmt-returns-in_err-judge_expr-in-If
judge_stmt-returns-in_err-judge_expr-in-If t c =
    fails c.from_residual.result _ _ c.from_residual.ensures.1 (stops_first _ _ _ _ (when_if _ _ _ _ _ c.in-If.is refl) c.in_err-judge_expr-in-If.ensures)

pub judge_stmt-returns-in_ok-judge_expr-in-If : goal.judge_stmt-returns-in_ok-judge_expr-in-If
judge_stmt-returns-in_ok-judge_expr-in-If t c = answers_behind c.judge_stmt.result _ _ _ (when_if _ _ _ _ _ c.in-If.is c.get.ensures) c.in_ok-judge_expr-in-If.ensures c.judge_stmt.ensures

pub judge_stmt-returns-in_err-judge_expr-in-IfElse : goal.judge_stmt-returns-in_err-judge_expr-in-IfElse
judge_stmt-returns-in_err-judge_expr-in-IfElse t c =
    fails c.from_residual-in_err-judge_expr-in-IfElse.result _ _ c.from_residual-in_err-judge_expr-in-IfElse.ensures.1
    (stops_first _ _ _ _ (when_if_else _ _ _ _ _ _ _ c.in-IfElse.is refl refl) (stops_first _ _ _ _ refl c.in_err-judge_expr-in-IfElse.ensures))

pub judge_stmt-returns-in_err-judge_stmt-in-IfElse : goal.judge_stmt-returns-in_err-judge_stmt-in-IfElse
judge_stmt-returns-in_err-judge_stmt-in-IfElse t c =
    fails c.from_residual-in_err-judge_stmt-in-IfElse.result _ _ c.from_residual-in_err-judge_stmt-in-IfElse.ensures.1
    (stops_first _ _ _ _ (when_if_else _ _ _ _ _ _ _ c.in-IfElse.is c.get-in-IfElse.ensures refl) (stops_behind _ _ _ _ refl c.in_ok-judge_expr-in-IfElse.ensures c.in_err-judge_stmt-in-IfElse.ensures))

pub judge_stmt-returns-in_ok-judge_stmt-in-IfElse : goal.judge_stmt-returns-in_ok-judge_stmt-in-IfElse
judge_stmt-returns-in_ok-judge_stmt-in-IfElse t c =
    answers_behind c.judge_stmt-in-IfElse-2.result _ _ _ (when_if_else _ _ _ _ _ _ _ c.in-IfElse.is c.get-in-IfElse.ensures c.get-in-IfElse-2.ensures)
    (behind_none _ _ _ refl c.in_ok-judge_expr-in-IfElse.ensures ∙ c.in_ok-judge_stmt-in-IfElse.ensures) c.judge_stmt-in-IfElse-2.ensures

pub judge_stmt-returns-in_err-judge_expr-in-Case : goal.judge_stmt-returns-in_err-judge_expr-in-Case
judge_stmt-returns-in_err-judge_expr-in-Case t c =
    fails c.from_residual-in_err-judge_expr-in-Case.result _ _ c.from_residual-in_err-judge_expr-in-Case.ensures.1
    (stops_first _ _ _ _ (when_case _ _ _ _ _ _ c.in-Case.is refl) c.in_err-judge_expr-in-Case.ensures)

pub judge_stmt-returns-in_ok-judge_expr-in-Case : goal.judge_stmt-returns-in_ok-judge_expr-in-Case
judge_stmt-returns-in_ok-judge_expr-in-Case t c =
    answers_behind c.judge_arms.result _ _ _ (when_case _ _ _ _ _ _ c.in-Case.is c.as_slice-in-Case.ensures) c.in_ok-judge_expr-in-Case.ensures c.judge_arms.ensures

pub judge_stmt-returns-in_err-judge_target-in-Assign : goal.judge_stmt-returns-in_err-judge_target-in-Assign
judge_stmt-returns-in_err-judge_target-in-Assign t c =
    fails c.from_residual-in_err-judge_target-in-Assign.result _ _ c.from_residual-in_err-judge_target-in-Assign.ensures.1
    (stops_first _ _ _ _ (when_assign _ _ _ _ _ _ c.in-Assign.is c.get-in-Assign.ensures) c.in_err-judge_target-in-Assign.ensures)

pub judge_stmt-returns-in_ok-judge_target-in-Assign : goal.judge_stmt-returns-in_ok-judge_target-in-Assign
judge_stmt-returns-in_ok-judge_target-in-Assign t c =
    answers_behind c.judge_expr-in-Assign.result _ _ _ (when_assign _ _ _ _ _ _ c.in-Assign.is c.get-in-Assign.ensures) c.in_ok-judge_target-in-Assign.ensures c.judge_expr-in-Assign.ensures

pub judge_stmts-loop-statement-preserved : goal.judge_stmts-loop-statement-preserved
judge_stmts-loop-statement-preserved t c = left_next _ _ _ _ c.loop-statement-test.true c.statement-item.is c.in_ok-judge_stmt.ensures c.loop-statement.invariant

pub judge_stmts-returns-in_err-judge_stmt : goal.judge_stmts-returns-in_err-judge_stmt
judge_stmts-returns-in_err-judge_stmt t c =
    fails c.from_residual.result _ _ c.from_residual.ensures.1 (left_stops _ _ _ _ _ c.loop-statement-test.true c.statement-item.is c.in_err-judge_stmt.ensures c.loop-statement.invariant)

pub judge_stmts-returns : goal.judge_stmts-returns
judge_stmts-returns t c = left_ends _ _ _ c.loop-statement-test.false c.loop-statement.invariant

pub judge_arm-returns-in_err-judge_label : goal.judge_arm-returns-in_err-judge_label
judge_arm-returns-in_err-judge_label t c = fails c.from_residual.result _ _ c.from_residual.ensures.1 (stops_first _ _ _ _ refl c.in_err-judge_label.ensures)

pub judge_arm-returns : goal.judge_arm-returns
judge_arm-returns t c = answers_behind c.judge_stmt.result _ _ _ refl c.in_ok-judge_label.ensures c.judge_stmt.ensures

pub judge_arms-loop-arm-preserved : goal.judge_arms-loop-arm-preserved
judge_arms-loop-arm-preserved t c = left_next _ _ _ _ c.loop-arm-test.true c.arm-item.is c.in_ok-judge_arm.ensures c.loop-arm.invariant

pub judge_arms-returns-in_err-judge_arm : goal.judge_arms-returns-in_err-judge_arm
judge_arms-returns-in_err-judge_arm t c =
    fails c.from_residual.result _ _ c.from_residual.ensures.1 (left_stops _ _ _ _ _ c.loop-arm-test.true c.arm-item.is c.in_err-judge_arm.ensures c.loop-arm.invariant)

pub judge_arms-returns : goal.judge_arms-returns
judge_arms-returns t c = left_ends _ _ _ c.loop-arm-test.false c.loop-arm.invariant
