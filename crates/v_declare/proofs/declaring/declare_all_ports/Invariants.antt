use Rattle.v_meaning.specs.ConstantRules.{port_faults}
use Rattle.v_meaning.specs.Declarations.{behind_ports}
use Rattle.v_declare.proofs.Walking.{Along}
use Rattle.v_declare.proofs.declaring.declare_all_ports.Given as goal

abbrev pub invariant-loop-group : goal.invariant-loop-group
invariant-loop-group l = Along port_faults (behind_ports l.roles) l.initial.names l.groups l.group-index l.names
