use Rattle.v_uses.specs.Adding.{accessed, item_reads}
use Rattle.v_uses.proofs.Adding.{Each}
use Rattle.v_uses.proofs.stmts.add_labels.Given as goal

abbrev pub invariant-loop-arm : goal.invariant-loop-arm
invariant-loop-arm l = Each accessed item_reads l.arms l.arm-index l.initial.all l.all
