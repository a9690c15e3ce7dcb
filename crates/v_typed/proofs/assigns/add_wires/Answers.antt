use Rattle.std.proofs.Common.{arith, ◌∙◌}
use Rattle.std.proofs.lemmas.Grind.{common_steps}
use Rattle.v_syntax.specs.declared.module.Declared.{Declared}
use Rattle.v_typed.specs.Sited.{ValueRead}
use Rattle.v_statements.proofs.ReadLaws.{this_one}
use Rattle.v_typed.proofs.assigns.add_wires.Goals as goal

pub loop-wire-preserved : goal.loop-wire-preserved
loop-wire-preserved c = (
  grind (arith, common_steps),
  c.in_ok-add_value.ensures.form ∙ c.loop-wire.invariant.1,
  c.in_ok-add_value.ensures.measured ∙ c.loop-wire.invariant.2,
  λ widths read.
      c.in_ok-add_value.ensures.sited widths (this_one (λ (d : Declared). ValueRead widths c.args.sites.now c.args.names.now d.value) c.args.wires.now _ _ c.loop-wire-test.true c.wire-item.is read)
      ∙ c.loop-wire.invariant.3 widths read,
)
