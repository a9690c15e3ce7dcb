use Rattle.std.proofs.Common.{refl}
use Rattle.v_uses.specs.Adding.{accesses_of, body_accesses}
use Rattle.v_uses.proofs.Adding.{none_more, same_more, then_more, three_more, on_ok, each_next, each_ends}
use Rattle.v_uses.proofs.StmtAccesses.{when_null, when_block, when_if, when_if_else, when_case, when_assign}
use Rattle.v_uses.proofs.stmts.+statements.Goals as goal

pub add_stmt-returns-in-Null : goal.add_stmt-returns-in-Null
add_stmt-returns-in-Null t c = none_more _ (when_null _ c.in-Null.is)

pub add_stmt-returns-in-Block : goal.add_stmt-returns-in-Block
add_stmt-returns-in-Block t c = on_ok c.add_stmts.result (same_more (λ names. names) (when_block _ _ _ c.in-Block.is c.as_slice.ensures)) c.add_stmts.ensures

pub add_stmt-returns-in_ok-add_expr-in-If : goal.add_stmt-returns-in_ok-add_expr-in-If
add_stmt-returns-in_ok-add_expr-in-If t c = on_ok c.add_stmt.result (then_more (when_if _ _ _ _ c.in-If.is c.get.ensures) c.in_ok-add_expr-in-If.ensures) c.add_stmt.ensures

pub add_stmt-returns-in_ok-add_stmt-in-IfElse : goal.add_stmt-returns-in_ok-add_stmt-in-IfElse
add_stmt-returns-in_ok-add_stmt-in-IfElse t c =
    on_ok c.add_stmt-in-IfElse-2.result
    (three_more (when_if_else _ _ _ _ _ _ c.in-IfElse.is c.get-in-IfElse.ensures c.get-in-IfElse-2.ensures) c.in_ok-add_expr-in-IfElse.ensures c.in_ok-add_stmt-in-IfElse.ensures)
    c.add_stmt-in-IfElse-2.ensures

pub add_stmt-returns-in_ok-add_labels-in-Case : goal.add_stmt-returns-in_ok-add_labels-in-Case
add_stmt-returns-in_ok-add_labels-in-Case t c =
    on_ok c.add_bodies.result (three_more (when_case _ _ _ _ _ c.in-Case.is c.as_slice-arms.ensures) c.in_ok-add_expr-in-Case.ensures c.in_ok-add_labels-in-Case.ensures)
    c.add_bodies.ensures

pub add_stmt-returns-in_ok-add_index-in-Assign : goal.add_stmt-returns-in_ok-add_index-in-Assign
add_stmt-returns-in_ok-add_index-in-Assign t c =
    on_ok c.add_target.result
    (three_more (when_assign _ _ _ _ _ c.in-Assign.is c.get-target.ensures) c.in_ok-add_expr-in-Assign.ensures
    (same_more (λ names. (names, c.in-Assign.kind)) (λ names. refl) c.in_ok-add_index-in-Assign.ensures))
    c.add_target.ensures

pub add_stmts-loop-statement-preserved : goal.add_stmts-loop-statement-preserved
add_stmts-loop-statement-preserved t c = each_next accesses_of c.loop-statement-test.true c.statement-item.is c.in_ok-add_stmt.ensures c.loop-statement.invariant

pub add_stmts-returns : goal.add_stmts-returns
add_stmts-returns t c = each_ends accesses_of c.loop-statement-test.false c.loop-statement.invariant

pub add_bodies-loop-arm-preserved : goal.add_bodies-loop-arm-preserved
add_bodies-loop-arm-preserved t c = each_next body_accesses c.loop-arm-test.true c.arm-item.is c.in_ok-add_stmt.ensures c.loop-arm.invariant

pub add_bodies-returns : goal.add_bodies-returns
add_bodies-returns t c = each_ends body_accesses c.loop-arm-test.false c.loop-arm.invariant
