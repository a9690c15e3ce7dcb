use Rattle.v_meaning.specs.Uses.{reads_of}
use Rattle.v_uses.specs.Adding.{accessed, link_reads}
use Rattle.v_uses.proofs.Adding.{Each}
use Rattle.v_uses.proofs.exprs.+expressions.Given as goal

abbrev pub invariant-add_links-loop-operand : goal.invariant-add_links-loop-operand
invariant-add_links-loop-operand l = Each accessed link_reads l.links l.operand-index l.initial.all l.all

abbrev pub invariant-add_exprs-loop-x : goal.invariant-add_exprs-loop-x
invariant-add_exprs-loop-x l = Each accessed reads_of l.xs l.x-index l.initial.all l.all
