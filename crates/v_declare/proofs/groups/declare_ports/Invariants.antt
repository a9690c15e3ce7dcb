use Rattle.v_declare.specs.Shapes.{HasShape}
use Rattle.v_declare.proofs.Walking.{Along}
use Rattle.v_declare.proofs.GroupFaults.{port_fault, behind_one, made_port}
use Rattle.v_declare.proofs.groups.declare_ports.Given as goal

abbrev pub invariant-loop-port : goal.invariant-loop-port
invariant-loop-port l = record {
  along : Along port_fault (behind_one (made_port l.roles l.group)) l.initial.names l.ports l.port-index l.names;
  shape : HasShape l.names l.group.range l.shape;
}
