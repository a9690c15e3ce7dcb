use Rattle.std.proofs.Common.{◌≡◌, ◌<◌, ℕ, None}
use Rattle.m_valid.specs.Walk.{known, to_do, IsWalking}
use Rattle.m_valid.proofs.walk.cone.Given as goal

abbrev pub invariant-walk : goal.invariant-walk
invariant-walk l = record {
  walking : IsWalking l.nodes l.line (known l.marks l.number) l.path.items;
  later : (later k : ℕ) → l.number < later → known l.fn.marks later k ≡ None → known l.marks later k ≡ None;
}

abbrev pub decreases-walk : goal.decreases-walk
decreases-walk l = to_do l.number l.line.root l.marks l.path.items
