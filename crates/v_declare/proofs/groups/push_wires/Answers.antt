use Rattle.std.proofs.Common.{refl}
use Rattle.v_declare.proofs.Walking.{along_begins, along_next, along_behind}
use Rattle.v_declare.proofs.Made.{shape_more}
use Rattle.v_declare.proofs.groups.push_wires.Goals as goal

pub loop-net-init : goal.loop-net-init
loop-net-init c = record { along = along_begins _ _ _ _; shape = c.requires.shape }

pub loop-net-preserved : goal.loop-net-preserved
loop-net-preserved c = record {
  along = along_next _ _ _ _ _ _ _ _ c.loop-net-test.true c.net-item.is refl c.in_ok-push_wire.ensures.behind c.loop-net.invariant.along;
  shape = rw c.in_ok-push_wire.ensures.behind (shape_more _ _ _ _ c.loop-net.invariant.shape);
}

pub returns-clause-behind : goal.returns-clause-behind
returns-clause-behind c = along_behind _ _ _ _ _ _ c.loop-net-test.false c.loop-net.invariant.along
