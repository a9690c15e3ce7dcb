use Rattle.v_meaning.specs.ConstantRules.{parameter_faults}
use Rattle.v_meaning.specs.Declarations.{behind_parameters}
use Rattle.v_declare.proofs.Walking.{Along}
use Rattle.v_declare.proofs.declaring.declare_all_parameters.Given as goal

abbrev pub invariant-loop-group : goal.invariant-loop-group
invariant-loop-group l = Along parameter_faults behind_parameters l.initial.names l.groups l.group-index l.names
