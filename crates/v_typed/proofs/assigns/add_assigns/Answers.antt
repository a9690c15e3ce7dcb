use Rattle.std.proofs.Common.{arith, ◌∙◌}
use Rattle.std.proofs.lemmas.Grind.{common_steps}
use Rattle.v_syntax.specs.declared.module.Setting.{Setting}
use Rattle.v_typing.specs.Sited.{IsRead}
use Rattle.v_statements.proofs.ReadLaws.{this_one}
use Rattle.v_typed.proofs.assigns.add_assigns.Goals as goal

pub loop-setting-preserved : goal.loop-setting-preserved
loop-setting-preserved c = (
  grind (arith, common_steps),
  c.in_ok-add_assign.ensures.form ∙ c.loop-setting.invariant.1,
  c.in_ok-add_assign.ensures.measured ∙ c.loop-setting.invariant.2,
  λ widths read.
      c.in_ok-add_assign.ensures.sited widths (this_one (λ (s : Setting). IsRead widths c.args.sites.now c.args.names.now s.value.expr) c.args.settings.now _ _ c.loop-setting-test.true c.setting-item.is read)
      ∙ c.loop-setting.invariant.3 widths read,
)
