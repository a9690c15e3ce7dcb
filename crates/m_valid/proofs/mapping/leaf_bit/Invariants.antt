use Rattle.std.proofs.Common.{◌≡◌, false, drop}
use Rattle.m_valid.specs.Plain.{leaf_bit}
use Rattle.m_valid.specs.Validity.{assigned, or_else}
use Rattle.m_valid.proofs.mapping.leaf_bit.Given as goal

abbrev pub invariant-loop-leaf : goal.invariant-loop-leaf
invariant-loop-leaf l = or_else (assigned (drop l.leaf-index l.leaves) l.rest l.node) false ≡ leaf_bit l.leaves l.assignment l.node
