use Rattle.v_meaning.specs.Weights.{declared_weight}
use Rattle.v_weight.proofs.Lists.{sums_next, sums_end}
use Rattle.v_weight.proofs.modules.weigh_declarations.Goals as goal

pub loop-entry-preserved : goal.loop-entry-preserved
loop-entry-preserved c =
    sums_next declared_weight c.args.entries.now _ _ _ _ _ c.loop-entry-test.true c.entry-item.is c.plus-all.ensures c.declared_weight.ensures c.loop-entry.invariant

pub returns : goal.returns
returns c = sums_end declared_weight c.args.entries.now _ _ c.loop-entry-test.false c.loop-entry.invariant
