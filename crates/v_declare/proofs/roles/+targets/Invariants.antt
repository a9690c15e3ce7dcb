use Rattle.v_declare.specs.Targets.{written_names}
use Rattle.v_declare.proofs.Written.{Each}
use Rattle.v_declare.proofs.roles.+targets.Given as goal

abbrev pub invariant-meet_targets-loop-target : goal.invariant-meet_targets-loop-target
invariant-meet_targets-loop-target l = Each written_names l.targets l.target-index l.initial.met l.met
