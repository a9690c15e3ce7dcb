use Rattle.v_meaning.specs.ConstantRules.{target_faults}
use Rattle.v_declare.proofs.Walking.{Left}
use Rattle.v_declare.proofs.faults.+targets.Given as goal

abbrev pub invariant-judge_targets-loop-target : goal.invariant-judge_targets-loop-target
invariant-judge_targets-loop-target l = Left (target_faults l.names) l.targets l.target-index
