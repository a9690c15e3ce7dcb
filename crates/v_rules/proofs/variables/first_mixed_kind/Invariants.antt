use Rattle.v_rules.proofs.Written.{MixedGoes}
use Rattle.v_rules.proofs.variables.first_mixed_kind.Given as goal

abbrev pub invariant-loop-write : goal.invariant-loop-write
invariant-loop-write l = MixedGoes l.write-items l.write-index l.blocking l.nonblocking l.first
