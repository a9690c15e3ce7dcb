use Rattle.std.proofs.Common.{◌≡◌, drop}
use Rattle.m_valid.specs.Validity.{increase}
use Rattle.m_valid.proofs.leaves.increase.Given as goal

abbrev pub invariant-loop-leaf : goal.invariant-loop-leaf
invariant-loop-leaf l = increase l.least (drop l.leaf-index l.leaves) l.root ≡ increase 0 l.leaves l.root
