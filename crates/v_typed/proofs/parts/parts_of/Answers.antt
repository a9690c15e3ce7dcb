use Rattle.std.proofs.Common.{arith, ◌∙◌}
use Rattle.std.proofs.lemmas.Grind.{common_steps}
use Rattle.v_statements.proofs.ReadLaws.{this_one}
use Rattle.v_typed.specs.Sited.{ItemRead}
use Rattle.v_typed.proofs.parts.parts_of.Goals as goal

pub loop-item-preserved : goal.loop-item-preserved
loop-item-preserved c = (
  grind (arith, common_steps),
  grind (arith, common_steps),
  grind (arith, common_steps),
  c.in_ok-add_item.ensures.formed_assigns ∙ c.loop-item.invariant.3,
  c.in_ok-add_item.ensures.formed_processes ∙ c.loop-item.invariant.4,
  c.in_ok-add_item.ensures.measured ∙ c.loop-item.invariant.5,
  λ widths read.
      c.in_ok-add_item.ensures.sited_assigns widths (this_one (ItemRead widths c.args.sites.now c.args.names.now) c.args.items.now _ _ c.loop-item-test.true c.item-item.is read)
      ∙ c.loop-item.invariant.6 widths read,
  λ widths read.
      c.in_ok-add_item.ensures.sited_processes widths (this_one (ItemRead widths c.args.sites.now c.args.names.now) c.args.items.now _ _ c.loop-item-test.true c.item-item.is read)
      ∙ c.loop-item.invariant.7 widths read,
)
