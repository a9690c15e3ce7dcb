use Rattle.std.proofs.Common.{sym}
use Rattle.v_declare.proofs.Written.{met_same, each_begins, each_next, each_ends, items_flat}
use Rattle.v_declare.proofs.roles.meet_items.Goals as goal

pub loop-item-init : goal.loop-item-init
loop-item-init c = each_begins _ _ _

pub loop-item-preserved : goal.loop-item-preserved
loop-item-preserved c = each_next _ _ _ _ _ _ _ c.loop-item-test.true c.item-item.is c.in_ok-meet_item.ensures c.loop-item.invariant

pub returns : goal.returns
returns c = met_same _ _ _ _ (sym (items_flat c.args.items.now)) (each_ends _ _ _ _ _ c.loop-item-test.false c.loop-item.invariant)
