use Rattle.v_meaning.specs.Marks.{target_marks}
use Rattle.v_scope.proofs.Adding.{Each}
use Rattle.v_scope.proofs.stmts.+targets.Given as goal

abbrev pub invariant-add_targets-loop-target : goal.invariant-add_targets-loop-target
invariant-add_targets-loop-target l = Each target_marks l.targets l.target-index l.initial.all.items l.all.items
