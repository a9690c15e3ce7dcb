use Rattle.std.proofs.Common.{◌≡◌, ◌≤◌, ◌<◌, ℕ, true, length, slice_index_or, take}
use Rattle.std.specs.List.{All}
use Rattle.v_depends.specs.Nodes.{is_marked}
use Rattle.v_depends.proofs.levels.suspects.Given as goal

abbrev pub invariant-loop-edge : goal.invariant-loop-edge
invariant-loop-edge l = record {
  long : length l.marks ≡ l.count;
  flat : All (λ (e : ℕ × ℕ). slice_index_or l.levels.items e.0 0 ≤ slice_index_or l.levels.items e.1 0 → e.0 < l.count → is_marked l.marks e.0 ≡ true) (take l.edge-index l.edges);
}
