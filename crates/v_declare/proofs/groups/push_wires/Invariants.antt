use Rattle.v_declare.specs.Shapes.{HasShape}
use Rattle.v_declare.proofs.Walking.{Along}
use Rattle.v_declare.proofs.GroupFaults.{behind_one, made_wire, no_fault}
use Rattle.v_declare.proofs.groups.push_wires.Given as goal

abbrev pub invariant-loop-net : goal.invariant-loop-net
invariant-loop-net l = record {
  along : Along no_fault (behind_one (made_wire l.signed l.range)) l.initial.names l.nets l.net-index l.names;
  shape : HasShape l.names l.range l.shape;
}
