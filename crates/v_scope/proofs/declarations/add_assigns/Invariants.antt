use Rattle.v_meaning.specs.Marks.{assign_marks}
use Rattle.v_scope.proofs.Adding.{Each}
use Rattle.v_scope.proofs.declarations.add_assigns.Given as goal

abbrev pub invariant-loop-setting : goal.invariant-loop-setting
invariant-loop-setting l = Each assign_marks l.settings l.setting-index l.initial.all.items l.all.items
