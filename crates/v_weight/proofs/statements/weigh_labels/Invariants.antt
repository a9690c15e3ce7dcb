use Rattle.v_weight.proofs.StmtLaws.{LabelsTo}
use Rattle.v_weight.proofs.statements.weigh_labels.Given as goal

abbrev pub invariant-loop-arm : goal.invariant-loop-arm
invariant-loop-arm l = LabelsTo l.names l.arms l.arm-index l.initial.all l.all
