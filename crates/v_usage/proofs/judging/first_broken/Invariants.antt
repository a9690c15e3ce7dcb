use Rattle.v_scope.specs.Occurrences.{marks_in}
use Rattle.v_usage.specs.Places.{usage_places}
use Rattle.v_usage.proofs.Least.{FirstBy}
use Rattle.v_usage.proofs.judging.first_broken.Given as goal

abbrev pub invariant-loop-rule : goal.invariant-loop-rule
invariant-loop-rule l = FirstBy (usage_places l.names (marks_in l.names l.all)) l.rules l.rule-index
