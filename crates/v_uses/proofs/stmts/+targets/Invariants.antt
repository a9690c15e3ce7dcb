use Rattle.v_uses.specs.Adding.{accessed, target_writes}
use Rattle.v_uses.proofs.Adding.{Each}
use Rattle.v_uses.proofs.stmts.+targets.Given as goal

abbrev pub invariant-add_targets-loop-target : goal.invariant-add_targets-loop-target
invariant-add_targets-loop-target l = Each accessed (λ names. target_writes (names, l.kind)) l.targets l.target-index l.initial.all l.all
