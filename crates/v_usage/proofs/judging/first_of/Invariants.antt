use Rattle.v_usage.proofs.Least.{LeastOf}
use Rattle.v_usage.proofs.judging.first_of.Given as goal

abbrev pub invariant-loop-occurrence : goal.invariant-loop-occurrence
invariant-loop-occurrence l = LeastOf l.names l.rule l.all l.occurrence-index l.first
