use Rattle.std.proofs.Common.{sym, ◌∙◌}
use Rattle.v_statements.specs.declared.cases.OpenArm.{OpenArm}
use Rattle.v_statements.specs.Cases.{comparison_in, arm_at, open_arm, typed_arm}
use Rattle.v_statements.specs.Forms.{arm_form, open_arm_form}
use Rattle.v_statements.specs.Sited.{is_sited_arm, is_sited_open_arm}
use Rattle.v_statements.proofs.Turns.{last_left, none_left}
use Rattle.v_statements.proofs.OpenLaws.{twice}
use Rattle.v_statements.proofs.cases.fixed_arms.Goals as goal

pub loop-arm-preserved : goal.loop-arm-preserved
loop-arm-preserved c = (
  λ names.
      last_left (typed_arm names) (λ (o : OpenArm). arm_at (comparison_in c.args.by) (open_arm names o)) c.loop-arm.fixed.items _ _ _ _ _ _ c.in-Some.ensures c.in_ok-push.ensures.items
      (c.in_ok-one.ensures.value names) (c.loop-arm.invariant.0 names),
  λ names. last_left (arm_form names) (open_arm_form names c.args.by) c.loop-arm.fixed.items _ _ _ _ _ _ c.in-Some.ensures c.in_ok-push.ensures.items (c.in_ok-one.ensures.form names) (c.loop-arm.invariant.1 names),
  last_left is_sited_arm is_sited_open_arm c.loop-arm.fixed.items _ _ _ _ _ _ c.in-Some.ensures c.in_ok-push.ensures.items c.in_ok-one.ensures.sited c.loop-arm.invariant.2,
)

pub returns-clause-value : goal.returns-clause-value
returns-clause-value c = λ names.
    none_left (typed_arm names) (λ (o : OpenArm). arm_at (comparison_in c.args.by) (open_arm names o)) c.loop-arm.fixed.items _ _ _ c.in_default.ensures.0
    (c.from_vec.ensures ∙ c.reverse.ensures.items) (c.loop-arm.invariant.0 names)
    ∙ sym (twice (arm_at (comparison_in c.args.by)) (open_arm names) c.args.arms)

pub returns-clause-form : goal.returns-clause-form
returns-clause-form c = λ names.
    none_left (arm_form names) (open_arm_form names c.args.by) c.loop-arm.fixed.items _ _ _ c.in_default.ensures.0 (c.from_vec.ensures ∙ c.reverse.ensures.items) (c.loop-arm.invariant.1 names)

pub returns-clause-sited : goal.returns-clause-sited
returns-clause-sited c =
    none_left is_sited_arm is_sited_open_arm c.loop-arm.fixed.items _ _ _ c.in_default.ensures.0 (c.from_vec.ensures ∙ c.reverse.ensures.items) c.loop-arm.invariant.2
