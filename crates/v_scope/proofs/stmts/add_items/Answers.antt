use Rattle.v_scope.proofs.Adding.{each_next, each_ends}
use Rattle.v_scope.proofs.stmts.add_items.Goals as goal

pub loop-item-preserved : goal.loop-item-preserved
loop-item-preserved c = each_next _ _ _ _ _ _ _ c.loop-item-test.true c.item-item.is c.in_ok-add_item.ensures c.loop-item.invariant

pub returns : goal.returns
returns c = each_ends _ _ _ _ _ c.loop-item-test.false c.loop-item.invariant
