use Rattle.v_uses.specs.Adding.{item_reads}
use Rattle.v_uses.proofs.Adding.{each_next, each_ends}
use Rattle.v_uses.proofs.stmts.add_labels.Goals as goal

pub loop-arm-preserved : goal.loop-arm-preserved
loop-arm-preserved c = each_next item_reads c.loop-arm-test.true c.arm-item.is c.in_ok-add_items.ensures c.loop-arm.invariant

pub returns : goal.returns
returns c = each_ends item_reads c.loop-arm-test.false c.loop-arm.invariant
