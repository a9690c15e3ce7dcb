use Rattle.v_rules.specs.Places.{process_places}
use Rattle.v_rules.proofs.Rules.{FirstBy}
use Rattle.v_rules.proofs.checking.first_broken.Given as goal

abbrev pub invariant-loop-rule : goal.invariant-loop-rule
invariant-loop-rule l = FirstBy (process_places l.names l.module) l.rules l.rule-index
