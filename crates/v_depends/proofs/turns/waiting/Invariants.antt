use Rattle.std.proofs.Common.{◌≡◌, ◌<◌, ℕ, true, length}
use Rattle.v_depends.specs.Nodes.{is_in, row}
use Rattle.v_depends.proofs.turns.waiting.Given as goal

abbrev pub invariant-loop-node : goal.invariant-loop-node
invariant-loop-node l = record {
  long : length l.waiting.items ≡ length l.rows;
  each : (node on : ℕ) → node < l.node → is_in on (row l.rows node) ≡ true → on < length l.rows → is_in node (row l.waiting.items on) ≡ true;
}
