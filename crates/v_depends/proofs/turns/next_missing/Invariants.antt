use Rattle.std.proofs.Common.{◌≡◌, ◌≤◌, ◌<◌, ◌-◌, ℕ, true, length, slice_index}
use Rattle.v_depends.specs.Nodes.{is_marked}
use Rattle.v_depends.proofs.turns.next_missing.Given as goal

abbrev pub invariant-loop-at : goal.invariant-loop-at
invariant-loop-at l = (k : ℕ) → l.from ≤ k → k < l.at → is_marked l.marks (slice_index l.row k) ≡ true

abbrev pub decreases-loop-at : goal.decreases-loop-at
decreases-loop-at l = length l.row - l.at
