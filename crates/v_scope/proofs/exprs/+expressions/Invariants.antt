use Rattle.v_scope.specs.Lists.{link_marks, part_marks}
use Rattle.v_scope.proofs.Adding.{Each}
use Rattle.v_scope.proofs.exprs.+expressions.Given as goal

abbrev pub invariant-add_links-loop-operand : goal.invariant-add_links-loop-operand
invariant-add_links-loop-operand l = Each link_marks l.links l.operand-index l.initial.all.items l.all.items

abbrev pub invariant-add_parts-loop-part : goal.invariant-add_parts-loop-part
invariant-add_parts-loop-part l = Each part_marks l.parts l.part-index l.initial.all.items l.all.items
