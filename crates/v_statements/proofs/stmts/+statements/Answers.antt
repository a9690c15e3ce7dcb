use denote.Param.Weighed.{most, at_most}
use Rattle.std.proofs.Common.{arith, ap, ◌∙◌}
use Rattle.v_syntax.proofs.stmt.Stmt.TheLaws.{the_size}
use Rattle.v_syntax.proofs.stmt.Arm.TheLaws as arm
use Rattle.v_meaning.specs.Acts.{sequence}
use Rattle.v_meaning.specs.Expressions.{sense_of}
use Rattle.v_core.specs.Statements.{ActsIn}
use Rattle.v_typing.specs.Sound.{is_sound_stmt}
use Rattle.v_statements.specs.Sound.{is_sound_arm}
use Rattle.v_statements.proofs.Depths.{body_deeper, if_deeper, then_deeper, else_deeper, arms_deeper, arm_deeper}
use Rattle.v_core.specs.declared.statement.TypedStmt.{TypedStmt}
use Rattle.v_core.specs.FormedCores.{KeptIn, is_formed_stmt}
use Rattle.v_core.specs.Sited.{SitedIn}
use Rattle.v_core.specs.SitedCores.{is_sited_stmt}
use Rattle.v_statements.specs.declared.cases.OpenArm.{OpenArm}
use Rattle.v_statements.specs.Forms.{ArmFormed}
use Rattle.v_statements.specs.Sited.{ArmRead, StmtRead, is_sited_open_arm}
use Rattle.v_statements.proofs.FormLaws.{all_push, both, each_push}
use Rattle.v_statements.proofs.ReadLaws.{read_assign, read_block, read_case, read_if, read_if_else, this_one}
use Rattle.v_statements.proofs.Turns.{one_of, one_same, all_same}
use Rattle.v_statements.proofs.OpenLaws.{arm_opened}
use Rattle.v_statements.proofs.StmtLaws.{when_null, when_block, when_if, when_if_else, when_case, when_assign, branch_is, case_is_source, sound_block, sound_if, sound_then, sound_condition, sound_one, sound_other, sound_subject, sound_arms, sound_target, sound_value, sound_label, sound_body}
use Rattle.v_statements.proofs.stmts.+statements.Goals as goal

pub statement-returns-in-Null-clause-value : goal.statement-returns-in-Null-clause-value
statement-returns-in-Null-clause-value t c = ap (λ (f : ActsIn). f c.args.names.now) c.nothing.ensures.value ∙ when_null c.args.names.now c.args.sites.now c.args.s.now c.in-Null.is

pub statement-each-requires : goal.statement-each-requires
statement-each-requires t c = (
  omega (arith, ap the_size c.in-Block.is, body_deeper c.in-Block.body, ap (most the_size) c.as_slice.ensures),
  sound_block c.args.names.now c.args.s.now _ _ c.in-Block.is c.as_slice.ensures c.requires.sound,
)

pub statement-returns-in_ok-body-in-Block-clause-value : goal.statement-returns-in_ok-body-in-Block-clause-value
statement-returns-in_ok-body-in-Block-clause-value t c =
    ap (λ (f : ActsIn). f c.args.names.now) c.in_turn.ensures.value ∙ ap sequence c.in_ok-body-in-Block.ensures.value
    ∙ when_block c.args.names.now c.args.sites.now c.args.s.now _ _ c.in-Block.is c.as_slice.ensures

pub statement-condition-requires : goal.statement-condition-requires
statement-condition-requires t c = record { sound = sound_if c.args.names.now c.args.s.now _ _ c.in-If.is c.requires.sound }

pub statement-statement-requires : goal.statement-statement-requires
statement-statement-requires t c = (
  omega (arith, ap the_size c.in-If.is, if_deeper c.in-If.x c.in-If.one, ap the_size c.get.ensures),
  sound_then c.args.names.now c.args.s.now _ _ _ c.in-If.is c.get.ensures c.requires.sound,
)

pub statement-returns-in_ok-t-in-If-clause-value : goal.statement-returns-in_ok-t-in-If-clause-value
statement-returns-in_ok-t-in-If-clause-value t c =
    branch_is c.args.names.now _ _ _ _ (sense_of c.args.names.now c.args.sites.now c.in-If.x) _ _ c.in_ok-t-in-If.ensures.value c.in_ok-x-in-If.ensures.value c.in_ok-one-in-If.ensures.value (ap (λ (f : ActsIn). f c.args.names.now) c.nothing-in-If.ensures.value)
    ∙ when_if c.args.names.now c.args.sites.now c.args.s.now _ _ _ c.in-If.is c.get.ensures

pub statement-condition-requires-in-IfElse : goal.statement-condition-requires-in-IfElse
statement-condition-requires-in-IfElse t c = record { sound = sound_condition c.args.names.now c.args.s.now _ _ _ c.in-IfElse.is c.requires.sound }

pub statement-statement-requires-in-IfElse : goal.statement-statement-requires-in-IfElse
statement-statement-requires-in-IfElse t c = (
  omega (arith, ap the_size c.in-IfElse.is, then_deeper c.in-IfElse.x c.in-IfElse.one c.in-IfElse.other, ap the_size c.get-in-IfElse.ensures),
  sound_one c.args.names.now c.args.s.now _ _ _ _ c.in-IfElse.is c.get-in-IfElse.ensures c.requires.sound,
)

pub statement-statement-requires-in-IfElse-2 : goal.statement-statement-requires-in-IfElse-2
statement-statement-requires-in-IfElse-2 t c = (
  omega (arith, ap the_size c.in-IfElse.is, else_deeper c.in-IfElse.x c.in-IfElse.one c.in-IfElse.other, ap the_size c.get-in-IfElse-2.ensures),
  sound_other c.args.names.now c.args.s.now _ _ _ _ c.in-IfElse.is c.get-in-IfElse-2.ensures c.requires.sound,
)

pub statement-returns-in_ok-t-in-IfElse-clause-value : goal.statement-returns-in_ok-t-in-IfElse-clause-value
statement-returns-in_ok-t-in-IfElse-clause-value t c =
    branch_is c.args.names.now _ _ _ _ (sense_of c.args.names.now c.args.sites.now c.in-IfElse.x) _ _ c.in_ok-t-in-IfElse.ensures.value c.in_ok-x-in-IfElse.ensures.value c.in_ok-one-in-IfElse.ensures.value c.in_ok-other-in-IfElse.ensures.value
    ∙ when_if_else c.args.names.now c.args.sites.now c.args.s.now _ _ _ _ _ c.in-IfElse.is c.get-in-IfElse.ensures c.get-in-IfElse-2.ensures

pub statement-opened-requires : goal.statement-opened-requires
statement-opened-requires t c = record { sound = sound_subject c.args.names.now c.args.s.now _ _ _ c.in-Case.is c.requires.sound }

pub statement-opened_arms-requires : goal.statement-opened_arms-requires
statement-opened_arms-requires t c = (
  omega (arith, ap the_size c.in-Case.is, arms_deeper c.in-Case.kind c.in-Case.subject c.in-Case.arms, ap (most arm.the_size) c.as_slice-in-Case.ensures),
  sound_arms c.args.names.now c.args.s.now _ _ _ _ c.in-Case.is c.as_slice-in-Case.ensures c.requires.sound,
)

pub statement-returns-in_ok-t-in-Case-clause-value : goal.statement-returns-in_ok-t-in-Case-clause-value
statement-returns-in_ok-t-in-Case-clause-value t c =
    c.in_ok-t-in-Case.ensures.value c.args.names.now ∙ case_is_source c.args.names.now c.args.sites.now _ _ _ _ _ c.in_ok-subject-in-Case.ensures.value c.in_ok-arms-in-Case.ensures.value
    ∙ when_case c.args.names.now c.args.sites.now c.args.s.now _ _ _ _ c.in-Case.is c.as_slice-in-Case.ensures

pub statement-assignment-requires-clause-target : goal.statement-assignment-requires-clause-target
statement-assignment-requires-clause-target t c = sound_target c.args.names.now c.args.s.now _ _ _ _ c.in-Assign.is c.get-in-Assign.ensures c.requires.sound

pub statement-assignment-requires-clause-value : goal.statement-assignment-requires-clause-value
statement-assignment-requires-clause-value t c = sound_value c.args.names.now c.args.s.now _ _ _ c.in-Assign.is c.requires.sound

pub statement-returns-in_ok-t-in-Assign-clause-value : goal.statement-returns-in_ok-t-in-Assign-clause-value
statement-returns-in_ok-t-in-Assign-clause-value t c =
    c.in_ok-t-in-Assign.ensures.value ∙ when_assign c.args.names.now c.args.sites.now c.args.s.now _ _ _ _ c.in-Assign.is c.get-in-Assign.ensures

pub each-statement-requires : goal.each-statement-requires
each-statement-requires t c = (
  omega (arith, at_most the_size c.args.body.now c.loop-s.s-index c.s-item.result c.loop-s-test.true, ap the_size c.s-item.is),
  one_of (is_sound_stmt c.args.names.now) c.args.body.now _ _ c.loop-s-test.true c.s-item.is c.requires.sound,
)

pub each-loop-s-preserved : goal.each-loop-s-preserved
each-loop-s-preserved t c = (
  one_same _ _ c.loop-s.all _ c.args.body.now _ _ _ c.loop-s-test.true c.s-item.is c.in_ok-push.ensures.ok c.in_ok-one.ensures.value c.loop-s.invariant.0,
  all_push (λ (x : TypedStmt). is_formed_stmt x c.args.names.now) c.loop-s.all _ _ c.in_ok-push.ensures.ok c.in_ok-one.ensures.form c.loop-s.invariant.1,
  λ widths read.
      all_push (λ (x : TypedStmt). is_sited_stmt x c.args.names.now widths) c.loop-s.all _ _ c.in_ok-push.ensures.ok
      (c.in_ok-one.ensures.sited widths (this_one (StmtRead widths c.args.sites.now c.args.names.now) c.args.body.now _ _ c.loop-s-test.true c.s-item.is read)) (c.loop-s.invariant.2 widths read),
)

pub each-returns-clause-value : goal.each-returns-clause-value
each-returns-clause-value t c = all_same _ _ c.loop-s.all c.args.body.now _ c.loop-s-test.false c.loop-s.invariant.0

pub opened_arms-opened_label-requires : goal.opened_arms-opened_label-requires
opened_arms-opened_label-requires t c = record {
  sound = sound_label c.args.names.now c.arm-item.result (one_of (is_sound_arm c.args.names.now) c.args.arms.now _ _ c.loop-arm-test.true c.arm-item.is c.requires.sound);
}

pub opened_arms-statement-requires : goal.opened_arms-statement-requires
opened_arms-statement-requires t c = (
  omega (arith, at_most arm.the_size c.args.arms.now c.loop-arm.arm-index c.arm-item.result c.loop-arm-test.true, ap arm.the_size c.arm-item.is, arm_deeper c.arm-item.result),
  sound_body c.args.names.now c.arm-item.result (one_of (is_sound_arm c.args.names.now) c.args.arms.now _ _ c.loop-arm-test.true c.arm-item.is c.requires.sound),
)

pub opened_arms-loop-arm-preserved : goal.opened_arms-loop-arm-preserved
opened_arms-loop-arm-preserved t c = (
  one_same _ _ c.loop-arm.all _ c.args.arms.now _ _ _ c.loop-arm-test.true c.arm-item.is c.in_ok-push.ensures.ok
      (arm_opened c.args.names.now c.args.sites.now c.args.kind _ _ _ c.in_ok-label.ensures.items c.in_ok-label.ensures.default c.in_ok-body.ensures.value) c.loop-arm.invariant.0,
  each_push (ArmFormed c.args.names.now) c.loop-arm.all _ _ c.in_ok-push.ensures.ok (record { items = c.in_ok-label.ensures.form; body = c.in_ok-body.ensures.form })
      c.loop-arm.invariant.1,
  λ widths read.
      let here = this_one (ArmRead widths c.args.sites.now c.args.names.now) c.args.arms.now _ _ c.loop-arm-test.true c.arm-item.is read in
      all_push (λ (a : OpenArm). is_sited_open_arm a c.args.names.now widths) c.loop-arm.all _ _ c.in_ok-push.ensures.ok
      (both (c.in_ok-label.ensures.sited widths here.0) (c.in_ok-body.ensures.sited widths here.1)) (c.loop-arm.invariant.2 widths read),
)

pub opened_arms-returns-clause-value : goal.opened_arms-returns-clause-value
opened_arms-returns-clause-value t c = all_same _ _ c.loop-arm.all c.args.arms.now _ c.loop-arm-test.false c.loop-arm.invariant.0

-- ---- widths

pub statement-returns-in-Null-clause-form : goal.statement-returns-in-Null-clause-form
statement-returns-in-Null-clause-form t c = ap (λ (f : KeptIn). f c.args.names.now) c.nothing.ensures.form

pub statement-returns-in_ok-body-in-Block-clause-form : goal.statement-returns-in_ok-body-in-Block-clause-form
statement-returns-in_ok-body-in-Block-clause-form t c = ap (λ (f : KeptIn). f c.args.names.now) c.in_turn.ensures.form ∙ c.in_ok-body-in-Block.ensures.form

pub statement-returns-in_ok-t-in-If-clause-form : goal.statement-returns-in_ok-t-in-If-clause-form
statement-returns-in_ok-t-in-If-clause-form t c =
    ap (λ (f : KeptIn). f c.args.names.now) c.in_ok-t-in-If.ensures.form
    ∙ both c.in_ok-x-in-If.ensures.form (both c.in_ok-one-in-If.ensures.form (ap (λ (f : KeptIn). f c.args.names.now) c.nothing-in-If.ensures.form))

pub statement-returns-in_ok-t-in-IfElse-clause-form : goal.statement-returns-in_ok-t-in-IfElse-clause-form
statement-returns-in_ok-t-in-IfElse-clause-form t c =
    ap (λ (f : KeptIn). f c.args.names.now) c.in_ok-t-in-IfElse.ensures.form
    ∙ both c.in_ok-x-in-IfElse.ensures.form (both c.in_ok-one-in-IfElse.ensures.form c.in_ok-other-in-IfElse.ensures.form)

pub statement-returns-in_ok-t-in-Case-clause-form : goal.statement-returns-in_ok-t-in-Case-clause-form
statement-returns-in_ok-t-in-Case-clause-form t c = c.in_ok-t-in-Case.ensures.form c.args.names.now c.in_ok-subject-in-Case.ensures.form c.in_ok-arms-in-Case.ensures.form

pub statement-returns-in_ok-t-in-Assign-clause-form : goal.statement-returns-in_ok-t-in-Assign-clause-form
statement-returns-in_ok-t-in-Assign-clause-form t c = c.in_ok-t-in-Assign.ensures.form

pub each-returns-clause-form : goal.each-returns-clause-form
each-returns-clause-form t c = c.loop-s.invariant.1

pub opened_arms-returns-clause-form : goal.opened_arms-returns-clause-form
opened_arms-returns-clause-form t c = c.loop-arm.invariant.1

-- ---- sites

pub statement-returns-in-Null-clause-sited : goal.statement-returns-in-Null-clause-sited
statement-returns-in-Null-clause-sited t c widths read = ap (λ (f : SitedIn). f c.args.names.now widths) c.nothing.ensures.sited

pub statement-returns-in_ok-body-in-Block-clause-sited : goal.statement-returns-in_ok-body-in-Block-clause-sited
statement-returns-in_ok-body-in-Block-clause-sited t c widths read =
    ap (λ (f : SitedIn). f c.args.names.now widths) c.in_turn.ensures.sited
    ∙ c.in_ok-body-in-Block.ensures.sited widths (read_block widths c.args.sites.now c.args.names.now c.args.s.now _ _ c.in-Block.is c.as_slice.ensures read)

pub statement-returns-in_ok-t-in-If-clause-sited : goal.statement-returns-in_ok-t-in-If-clause-sited
statement-returns-in_ok-t-in-If-clause-sited t c widths read =
    let parts = read_if widths c.args.sites.now c.args.names.now c.args.s.now _ _ _ c.in-If.is c.get.ensures read in
    ap (λ (f : SitedIn). f c.args.names.now widths) c.in_ok-t-in-If.ensures.sited
    ∙ both (c.in_ok-x-in-If.ensures.sited widths parts.0)
    (both (c.in_ok-one-in-If.ensures.sited widths parts.1) (ap (λ (f : SitedIn). f c.args.names.now widths) c.nothing-in-If.ensures.sited))

pub statement-returns-in_ok-t-in-IfElse-clause-sited : goal.statement-returns-in_ok-t-in-IfElse-clause-sited
statement-returns-in_ok-t-in-IfElse-clause-sited t c widths read =
    let parts = read_if_else widths c.args.sites.now c.args.names.now c.args.s.now _ _ _ _ _ c.in-IfElse.is c.get-in-IfElse.ensures c.get-in-IfElse-2.ensures read in
    ap (λ (f : SitedIn). f c.args.names.now widths) c.in_ok-t-in-IfElse.ensures.sited
    ∙ both (c.in_ok-x-in-IfElse.ensures.sited widths parts.0)
    (both (c.in_ok-one-in-IfElse.ensures.sited widths parts.1) (c.in_ok-other-in-IfElse.ensures.sited widths parts.2))

pub statement-returns-in_ok-t-in-Case-clause-sited : goal.statement-returns-in_ok-t-in-Case-clause-sited
statement-returns-in_ok-t-in-Case-clause-sited t c widths read =
    let parts = read_case widths c.args.sites.now c.args.names.now c.args.s.now _ _ _ _ c.in-Case.is c.as_slice-in-Case.ensures read in
    ap (λ (f : SitedIn). f c.args.names.now widths) c.in_ok-t-in-Case.ensures.sited
    ∙ both (c.in_ok-subject-in-Case.ensures.sited widths parts.0) (c.in_ok-arms-in-Case.ensures.sited widths parts.1)

pub statement-returns-in_ok-t-in-Assign-clause-sited : goal.statement-returns-in_ok-t-in-Assign-clause-sited
statement-returns-in_ok-t-in-Assign-clause-sited t c widths read =
    let parts = read_assign widths c.args.sites.now c.args.names.now c.args.s.now _ _ _ _ c.in-Assign.is c.get-in-Assign.ensures read in
    c.in_ok-t-in-Assign.ensures.sited widths parts.0 parts.1

pub each-returns-clause-sited : goal.each-returns-clause-sited
each-returns-clause-sited t c = c.loop-s.invariant.2

pub opened_arms-returns-clause-sited : goal.opened_arms-returns-clause-sited
opened_arms-returns-clause-sited t c = c.loop-arm.invariant.2
