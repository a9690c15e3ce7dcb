use Rattle.v_meaning.specs.Uses.{item_assign_uses}
use Rattle.v_uses.specs.Seen.{assign_seen}
use Rattle.v_uses.specs.Gathered.{assign_in}
use Rattle.v_uses.proofs.Adding.{each_next, each_ends}
use Rattle.v_uses.proofs.ItemUses.{whole}
use Rattle.v_uses.proofs.gathering.assigns.Goals as goal

pub loop-item-preserved : goal.loop-item-preserved
loop-item-preserved c = each_next item_assign_uses c.loop-item-test.true c.item-item.is c.in_ok-add_item_assigns.ensures c.loop-item.invariant

pub returns : goal.returns
returns c = whole assign_in assign_seen c.new-all.ensures (each_ends item_assign_uses c.loop-item-test.false c.loop-item.invariant)
