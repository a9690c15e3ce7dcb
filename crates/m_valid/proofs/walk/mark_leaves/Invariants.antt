use Rattle.std.proofs.Common.{◌≡◌, ◌<◌, ◌≤◌, ℕ, None, length, drop}
use Rattle.m_valid.specs.Walk.{known, IsLeafTable}
use Rattle.m_valid.proofs.walk.mark_leaves.Given as goal

abbrev pub invariant-loop-j : goal.invariant-loop-j
invariant-loop-j l = record {
  within : l.j ≤ length l.leaves;
  tables : (k : ℕ) → IsLeafTable l.j (drop l.j l.leaves) k (known l.marks l.line k);
  later : (later k : ℕ) → l.line < later → known l.initial.marks later k ≡ None → known l.marks later k ≡ None;
}

abbrev pub decreases-loop-j : goal.decreases-loop-j
decreases-loop-j l = l.j
