use Rattle.v_meaning.specs.ConstantRules.{variable_faults}
use Rattle.v_declare.specs.Shapes.{HasShape}
use Rattle.v_declare.proofs.Walking.{Along}
use Rattle.v_declare.proofs.GroupFaults.{behind_one, made_variable}
use Rattle.v_declare.proofs.groups.declare_regs.Given as goal

abbrev pub invariant-loop-variable : goal.invariant-loop-variable
invariant-loop-variable l = record {
  along : Along variable_faults (behind_one (made_variable l.roles l.signed l.range)) l.initial.names l.variables l.variable-index l.names;
  shape : HasShape l.names l.range l.shape;
}
