use Rattle.v_meaning.specs.Uses.{item_process_uses}
use Rattle.v_uses.specs.Seen.{process_seen}
use Rattle.v_uses.specs.Gathered.{process_in}
use Rattle.v_uses.proofs.Adding.{each_next, each_ends}
use Rattle.v_uses.proofs.ItemUses.{whole}
use Rattle.v_uses.proofs.gathering.processes.Goals as goal

pub loop-item-preserved : goal.loop-item-preserved
loop-item-preserved c = each_next item_process_uses c.loop-item-test.true c.item-item.is c.in_ok-add_item_process.ensures c.loop-item.invariant

pub returns : goal.returns
returns c = whole process_in process_seen c.new-all.ensures (each_ends item_process_uses c.loop-item-test.false c.loop-item.invariant)
