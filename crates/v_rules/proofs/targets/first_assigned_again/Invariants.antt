use Rattle.v_rules.proofs.Written.{AssignedGoes}
use Rattle.v_rules.proofs.targets.first_assigned_again.Given as goal

abbrev pub invariant-loop-ident : goal.invariant-loop-ident
invariant-loop-ident l = AssignedGoes l.targets l.ident-index l.met l.first
