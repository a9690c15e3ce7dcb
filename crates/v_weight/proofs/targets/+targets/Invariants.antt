use Rattle.v_weight.proofs.TargetLaws.{TargetsTo}
use Rattle.v_weight.proofs.targets.+targets.Given as goal

abbrev pub invariant-weigh_targets-loop-target : goal.invariant-weigh_targets-loop-target
invariant-weigh_targets-loop-target l = TargetsTo l.names l.targets l.target-index l.width l.size l.indices
