use Rattle.v_uses.specs.Adding.{accessed, index_reads}
use Rattle.v_uses.proofs.Adding.{Each}
use Rattle.v_uses.proofs.stmts.+indices.Given as goal

abbrev pub invariant-add_indices-loop-target : goal.invariant-add_indices-loop-target
invariant-add_indices-loop-target l = Each accessed index_reads l.targets l.target-index l.initial.all l.all
