use Rattle.v_declare.proofs.Written.{met_none, same_end, then_end, each_begins, each_next, each_ends, when_null, when_block, when_if, when_if_else, when_case, when_assign}
use Rattle.v_declare.proofs.roles.+statements.Goals as goal

pub meet_stmt-returns-in-Null : goal.meet_stmt-returns-in-Null
meet_stmt-returns-in-Null t c = met_none _ _ (when_null _ c.in-Null.is)

pub meet_stmt-returns-in-Block : goal.meet_stmt-returns-in-Block
meet_stmt-returns-in-Block t c = same_end c.meet_stmts.result _ _ _ _ (when_block _ _ _ c.in-Block.is c.as_slice.ensures) c.meet_stmts.ensures

pub meet_stmt-returns-in-If : goal.meet_stmt-returns-in-If
meet_stmt-returns-in-If t c = same_end c.meet_stmt.result _ _ _ _ (when_if _ _ _ _ c.in-If.is c.get.ensures) c.meet_stmt.ensures

pub meet_stmt-returns-in_ok-meet_stmt-in-IfElse : goal.meet_stmt-returns-in_ok-meet_stmt-in-IfElse
meet_stmt-returns-in_ok-meet_stmt-in-IfElse t c =
    then_end c.meet_stmt-in-IfElse-2.result _ _ _ _ _ _ (when_if_else _ _ _ _ _ _ c.in-IfElse.is c.get-in-IfElse.ensures c.get-in-IfElse-2.ensures)
    c.in_ok-meet_stmt-in-IfElse.ensures c.meet_stmt-in-IfElse-2.ensures

pub meet_stmt-returns-in-Case : goal.meet_stmt-returns-in-Case
meet_stmt-returns-in-Case t c = same_end c.meet_arms.result _ _ _ _ (when_case _ _ _ _ _ c.in-Case.is c.as_slice-in-Case.ensures) c.meet_arms.ensures

pub meet_stmt-returns-in-Assign : goal.meet_stmt-returns-in-Assign
meet_stmt-returns-in-Assign t c = same_end c.meet_target.result _ _ _ _ (when_assign _ _ _ _ _ c.in-Assign.is c.get-in-Assign.ensures) c.meet_target.ensures

pub meet_stmts-loop-statement-init : goal.meet_stmts-loop-statement-init
meet_stmts-loop-statement-init t c = each_begins _ _ _

pub meet_stmts-loop-statement-preserved : goal.meet_stmts-loop-statement-preserved
meet_stmts-loop-statement-preserved t c = each_next _ _ _ _ _ _ _ c.loop-statement-test.true c.statement-item.is c.in_ok-meet_stmt.ensures c.loop-statement.invariant

pub meet_stmts-returns : goal.meet_stmts-returns
meet_stmts-returns t c = each_ends _ _ _ _ _ c.loop-statement-test.false c.loop-statement.invariant

pub meet_arms-loop-arm-init : goal.meet_arms-loop-arm-init
meet_arms-loop-arm-init t c = each_begins _ _ _

pub meet_arms-loop-arm-preserved : goal.meet_arms-loop-arm-preserved
meet_arms-loop-arm-preserved t c = each_next _ _ _ _ _ _ _ c.loop-arm-test.true c.arm-item.is c.in_ok-meet_stmt.ensures c.loop-arm.invariant

pub meet_arms-returns : goal.meet_arms-returns
meet_arms-returns t c = each_ends _ _ _ _ _ c.loop-arm-test.false c.loop-arm.invariant
