use Rattle.v_scope.proofs.Adding.{each_next, each_ends}
use Rattle.v_scope.proofs.declarations.add_each.Goals as goal

pub loop-part-preserved : goal.loop-part-preserved
loop-part-preserved g c = each_next _ _ _ _ _ _ _ c.loop-part-test.true c.part-item.is c.in_ok-add_to.ensures c.loop-part.invariant

pub returns : goal.returns
returns g c = each_ends _ _ _ _ _ c.loop-part-test.false c.loop-part.invariant
