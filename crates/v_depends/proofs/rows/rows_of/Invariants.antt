use Rattle.std.proofs.Common.{◌≡◌, ◌<◌, ℕ, length, take}
use Rattle.v_depends.specs.Nodes.{row, sources}
use Rattle.v_depends.proofs.rows.rows_of.Given as goal

abbrev pub invariant-loop-edge : goal.invariant-loop-edge
invariant-loop-edge l = record {
  long : length l.rows.items ≡ l.count;
  each : (node : ℕ) → node < l.count → row l.rows.items node ≡ sources (take l.edge-index l.edges) node;
}
