use Rattle.v_meaning.specs.Marks.{item_marks}
use Rattle.v_scope.proofs.Adding.{Each}
use Rattle.v_scope.proofs.stmts.add_items.Given as goal

abbrev pub invariant-loop-item : goal.invariant-loop-item
invariant-loop-item l = Each (λ names. item_marks names l.kind) l.items l.item-index l.initial.all.items l.all.items
