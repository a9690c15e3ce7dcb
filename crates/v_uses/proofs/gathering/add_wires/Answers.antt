use Rattle.v_uses.specs.Adding.{wire_uses}
use Rattle.v_uses.proofs.Adding.{each_next, each_ends}
use Rattle.v_uses.proofs.gathering.add_wires.Goals as goal

pub loop-net-preserved : goal.loop-net-preserved
loop-net-preserved c = each_next wire_uses c.loop-net-test.true c.net-item.is c.in_ok-add_wire.ensures c.loop-net.invariant

pub returns : goal.returns
returns c = each_ends wire_uses c.loop-net-test.false c.loop-net.invariant
