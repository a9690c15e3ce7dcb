use Rattle.std.proofs.Common.{refl}
use Rattle.v_meaning.specs.Sites.{stmt_sites}
use Rattle.v_typing.specs.Sound.{is_sound_stmt}
use Rattle.v_sites.specs.Adding.{arm_sites, is_sound_arm}
use Rattle.v_sites.proofs.Adding.{none_more, same_more, then_more, three_more, on_ok, each_next, each_ends}
use Rattle.v_sites.proofs.Sound.{body_sound, if_condition_sound, if_body_sound, if_else_condition_sound, if_else_then_sound, if_else_otherwise_sound, subject_sound, arms_sound, target_sound, value_sound, label_sound, arm_body_sound}
use Rattle.v_sites.proofs.StmtSites.{when_null, when_block, when_if, when_if_else, when_case, when_assign}
use Rattle.v_sites.proofs.stmts.+statements.Goals as goal

pub add_stmt-returns-in-Null : goal.add_stmt-returns-in-Null
add_stmt-returns-in-Null t c = none_more _ _ _ (λ h. when_null c.args.names.now c.args.statement.now c.in-Null.is)

pub add_stmt-returns-in-Block : goal.add_stmt-returns-in-Block
add_stmt-returns-in-Block t c =
    on_ok c.add_stmts.result (same_more (body_sound c.args.names.now c.args.statement.now _ _ c.in-Block.is c.as_slice.ensures) (when_block c.args.names.now c.args.statement.now _ _ c.in-Block.is c.as_slice.ensures)) c.add_stmts.ensures

pub add_stmt-returns-in_ok-add_expr-in-If : goal.add_stmt-returns-in_ok-add_expr-in-If
add_stmt-returns-in_ok-add_expr-in-If t c =
    on_ok c.add_stmt.result
    (then_more (if_condition_sound c.args.names.now c.args.statement.now _ _ c.in-If.is) (if_body_sound c.args.names.now c.args.statement.now _ _ _ c.in-If.is c.get.ensures) (when_if c.args.names.now c.args.statement.now _ _ _ c.in-If.is c.get.ensures)
    c.in_ok-add_expr-in-If.ensures)
    c.add_stmt.ensures

pub add_stmt-returns-in_ok-add_stmt-in-IfElse : goal.add_stmt-returns-in_ok-add_stmt-in-IfElse
add_stmt-returns-in_ok-add_stmt-in-IfElse t c =
    on_ok c.add_stmt-in-IfElse-2.result
    (three_more (if_else_condition_sound c.args.names.now c.args.statement.now _ _ _ c.in-IfElse.is) (if_else_then_sound c.args.names.now c.args.statement.now _ _ _ _ c.in-IfElse.is c.get-in-IfElse.ensures)
    (if_else_otherwise_sound c.args.names.now c.args.statement.now _ _ _ _ c.in-IfElse.is c.get-in-IfElse-2.ensures)
    (when_if_else c.args.names.now c.args.statement.now _ _ _ _ _ c.in-IfElse.is c.get-in-IfElse.ensures c.get-in-IfElse-2.ensures) c.in_ok-add_expr-in-IfElse.ensures c.in_ok-add_stmt-in-IfElse.ensures)
    c.add_stmt-in-IfElse-2.ensures

pub add_stmt-returns-in_ok-add_expr-in-Case : goal.add_stmt-returns-in_ok-add_expr-in-Case
add_stmt-returns-in_ok-add_expr-in-Case t c =
    on_ok c.add_arms.result
    (then_more (subject_sound c.args.names.now c.args.statement.now _ _ _ c.in-Case.is) (arms_sound c.args.names.now c.args.statement.now _ _ _ _ c.in-Case.is c.as_slice-in-Case.ensures)
    (when_case c.args.names.now c.args.statement.now _ _ _ _ c.in-Case.is c.as_slice-in-Case.ensures) c.in_ok-add_expr-in-Case.ensures)
    c.add_arms.ensures

pub add_stmt-returns-in_ok-add_target-in-Assign : goal.add_stmt-returns-in_ok-add_target-in-Assign
add_stmt-returns-in_ok-add_target-in-Assign t c =
    on_ok c.add_expr-in-Assign.result
    (then_more (target_sound c.args.names.now c.args.statement.now _ _ _ _ c.in-Assign.is c.get-in-Assign.ensures) (value_sound c.args.names.now c.args.statement.now _ _ _ c.in-Assign.is)
    (when_assign c.args.names.now c.args.statement.now _ _ _ _ c.in-Assign.is c.get-in-Assign.ensures) c.in_ok-add_target-in-Assign.ensures)
    c.add_expr-in-Assign.ensures

pub add_stmts-loop-statement-preserved : goal.add_stmts-loop-statement-preserved
add_stmts-loop-statement-preserved t c =
    each_next (is_sound_stmt c.args.names.now) (stmt_sites c.args.names.now) c.loop-statement-test.true c.statement-item.is c.in_ok-add_stmt.ensures c.loop-statement.invariant

pub add_stmts-returns : goal.add_stmts-returns
add_stmts-returns t c = each_ends (is_sound_stmt c.args.names.now) (stmt_sites c.args.names.now) c.loop-statement-test.false c.loop-statement.invariant

pub add_arms-loop-arm-preserved : goal.add_arms-loop-arm-preserved
add_arms-loop-arm-preserved t c =
    each_next (is_sound_arm c.args.names.now) (arm_sites c.args.names.now) c.loop-arm-test.true c.arm-item.is
    (then_more (label_sound c.args.names.now c.arm-item.result) (arm_body_sound c.args.names.now c.arm-item.result) refl c.in_ok-add_label.ensures c.in_ok-add_stmt.ensures) c.loop-arm.invariant

pub add_arms-returns : goal.add_arms-returns
add_arms-returns t c = each_ends (is_sound_arm c.args.names.now) (arm_sites c.args.names.now) c.loop-arm-test.false c.loop-arm.invariant
