use Rattle.std.proofs.Common.{◌≡◌, ◌≤◌, ◌-◌, ℕ, [], length}
use Rattle.v_depends.specs.Nodes.{row}
use Rattle.v_depends.proofs.rows.empty_rows.Given as goal

abbrev pub invariant-loop-alloc : goal.invariant-loop-alloc
invariant-loop-alloc l = record { few : length l.rows.items ≤ l.count; empty : (node : ℕ) → row l.rows.items node ≡ [] }

abbrev pub decreases-loop-alloc : goal.decreases-loop-alloc
decreases-loop-alloc l = l.count - length l.rows.items
