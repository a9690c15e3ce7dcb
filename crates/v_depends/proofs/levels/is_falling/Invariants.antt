use Rattle.std.proofs.Common.{◌≤◌, ℕ, slice_index_or, take}
use Rattle.std.specs.List.{All}
use Rattle.v_depends.proofs.levels.is_falling.Given as goal

abbrev pub invariant-loop-edge : goal.invariant-loop-edge
invariant-loop-edge l = All (λ (e : ℕ × ℕ). slice_index_or l.levels e.1 0 ≤ slice_index_or l.levels e.0 0) (take l.edge-index l.edges)
