use Rattle.v_uses.specs.Adding.{assigns_seen, wire_uses}
use Rattle.v_uses.proofs.Adding.{Each}
use Rattle.v_uses.proofs.gathering.add_wires.Given as goal

abbrev pub invariant-loop-net : goal.invariant-loop-net
invariant-loop-net l = Each assigns_seen wire_uses l.nets l.net-index l.initial.all l.all
