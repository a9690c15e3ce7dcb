use Rattle.v_rules.proofs.Written.{AgainGoes}
use Rattle.v_rules.proofs.variables.first_written_again.Given as goal

abbrev pub invariant-loop-process : goal.invariant-loop-process
invariant-loop-process l = AgainGoes l.process-items l.process-index l.met l.first
