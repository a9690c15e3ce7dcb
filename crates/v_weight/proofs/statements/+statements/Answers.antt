use Rattle.std.proofs.Common.{ℕ}
use Rattle.v_syntax.specs.declared.stmt.Arm.{Arm}
use Rattle.v_meaning.specs.Statements.{label_items}
use Rattle.v_meaning.specs.Weights.{stmt_weight}
use Rattle.v_typing.specs.Sound.{all_sound, is_sound_stmt}
use Rattle.v_weight.specs.Statements.{is_sound_arm}
use Rattle.v_weight.proofs.Saturating.{same_refl}
use Rattle.v_weight.proofs.Lists.{second_of}
use Rattle.v_weight.proofs.StmtLaws.{when_null, when_block, when_if, when_if_else, when_case, when_assign, next_in, end_in}
use Rattle.v_weight.proofs.statements.+statements.Goals as goal

pub weigh_statement-returns-in-Null : goal.weigh_statement-returns-in-Null
weigh_statement-returns-in-Null t c sound d deep = when_null c.args.names.now c.args.statement.now c.in-Null.is d

pub weigh_statement-returns-in_ok-all-in-Block : goal.weigh_statement-returns-in_ok-all-in-Block
weigh_statement-returns-in_ok-all-in-Block t c =
    when_block c.args.names.now c.args.statement.now _ _ c.args.depth _ c.in-Block.is c.as_slice.ensures c.in_ok-all-in-Block.ensures

pub weigh_statement-returns-in_ok-then-in-If : goal.weigh_statement-returns-in_ok-then-in-If
weigh_statement-returns-in_ok-then-in-If t c =
    when_if c.args.names.now c.args.statement.now _ _ _ c.args.depth _ _ _ _ c.in-If.is c.get.ensures c.in_ok-condition-in-If.ensures (λ d deep. c.plus-inner.ensures _ _ deep (same_refl 1))
    c.in_ok-then-in-If.ensures c.plus.ensures

pub weigh_statement-returns-in_ok-otherwise-in-IfElse : goal.weigh_statement-returns-in_ok-otherwise-in-IfElse
weigh_statement-returns-in_ok-otherwise-in-IfElse t c =
    when_if_else c.args.names.now c.args.statement.now _ _ _ _ _ c.args.depth _ _ _ _ _ _ c.in-IfElse.is c.get-in-IfElse.ensures c.get-in-IfElse-2.ensures c.in_ok-condition-in-IfElse.ensures
    (λ d deep. c.plus-inner-in-IfElse.ensures _ _ deep (same_refl 1)) c.in_ok-then-in-IfElse.ensures c.in_ok-otherwise-in-IfElse.ensures c.plus-before.ensures c.plus-in-IfElse.ensures

pub weigh_statement-returns-in_ok-bodies-in-Case : goal.weigh_statement-returns-in_ok-bodies-in-Case
weigh_statement-returns-in_ok-bodies-in-Case t c =
    when_case c.args.names.now c.args.statement.now _ _ _ _ _ c.args.depth _ _ _ _ c.in-Case.is c.as_slice-in-Case.ensures c.as_slice-in-Case-2.ensures c.in_ok-comparison-in-Case.ensures
    (λ d deep. c.plus-inner-in-Case.ensures _ _ deep (same_refl 1)) c.in_ok-bodies-in-Case.ensures c.plus-in-Case.ensures

pub weigh_statement-returns-in_ok-all-in-Assign : goal.weigh_statement-returns-in_ok-all-in-Assign
weigh_statement-returns-in_ok-all-in-Assign t c =
    when_assign c.args.names.now c.args.statement.now _ _ _ _ c.args.depth _ c.in-Assign.is c.get-in-Assign.ensures c.in_ok-all-in-Assign.ensures

pub weigh_block-loop-statement-preserved : goal.weigh_block-loop-statement-preserved
weigh_block-loop-statement-preserved t c =
    next_in (stmt_weight c.args.names.now) (is_sound_stmt c.args.names.now) c.args.body.now _ _ c.args.depth _ _ _ c.loop-statement-test.true c.statement-item.is c.plus-all.ensures c.in_ok-one.ensures
    c.loop-statement.invariant

pub weigh_block-returns : goal.weigh_block-returns
weigh_block-returns t c = end_in (stmt_weight c.args.names.now) (is_sound_stmt c.args.names.now) c.args.body.now _ c.args.depth _ c.loop-statement-test.false c.loop-statement.invariant

pub weigh_arms-loop-arm-preserved : goal.weigh_arms-loop-arm-preserved
weigh_arms-loop-arm-preserved t c =
    next_in (λ (a : Arm) (d : ℕ). stmt_weight c.args.names.now a.body d) (is_sound_arm c.args.names.now) c.args.arms.now _ _ c.args.depth _ _ _ c.loop-arm-test.true c.arm-item.is c.plus-all.ensures
    (λ sound. c.in_ok-one.ensures (second_of (all_sound c.args.names.now (label_items c.arm-item.result.label)) _ sound)) c.loop-arm.invariant

pub weigh_arms-returns : goal.weigh_arms-returns
weigh_arms-returns t c =
    end_in (λ (a : Arm) (d : ℕ). stmt_weight c.args.names.now a.body d) (is_sound_arm c.args.names.now) c.args.arms.now _ c.args.depth _ c.loop-arm-test.false c.loop-arm.invariant
