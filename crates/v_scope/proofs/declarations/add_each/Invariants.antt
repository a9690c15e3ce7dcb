use Rattle.v_scope.proofs.Adding.{Each}
use Rattle.v_scope.proofs.declarations.add_each.Given as goal

abbrev pub invariant-loop-part : goal.invariant-loop-part
invariant-loop-part g l = Each g.T.Listed.marks l.parts l.part-index l.initial.all.items l.all.items
