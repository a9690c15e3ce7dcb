use Rattle.std.proofs.Common.{◌≡◌, ℕ, List, drop}
use Rattle.m_valid.specs.Validity.{may_be_leaves}
use Rattle.m_valid.specs.Walk.{Tells}
use Rattle.m_valid.proofs.leaves.may_be_leaves.Given as goal

abbrev pub invariant-loop-leaf : goal.invariant-loop-leaf
invariant-loop-leaf l = (before : List ℕ) → Tells l.roots before → may_be_leaves l.nodes before (drop l.leaf-index l.leaves) ≡ may_be_leaves l.nodes before l.leaves
