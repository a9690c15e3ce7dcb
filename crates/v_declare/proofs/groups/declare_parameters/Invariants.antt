use Rattle.v_declare.specs.Shapes.{HasShape}
use Rattle.v_declare.proofs.Walking.{Along}
use Rattle.v_declare.proofs.GroupFaults.{setting_fault, behind_setting}
use Rattle.v_declare.proofs.groups.declare_parameters.Given as goal

abbrev pub invariant-loop-setting : goal.invariant-loop-setting
invariant-loop-setting l = record {
  along : Along setting_fault (behind_setting l.group) l.initial.names l.settings l.setting-index l.names;
  shape : HasShape l.names l.group.range l.shape;
}
