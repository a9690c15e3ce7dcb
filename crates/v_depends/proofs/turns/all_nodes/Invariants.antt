use Rattle.std.proofs.Common.{◌≡◌, ◌<◌, ℕ, true}
use Rattle.v_depends.specs.Nodes.{is_in}
use Rattle.v_depends.proofs.turns.all_nodes.Given as goal

abbrev pub invariant-loop-node : goal.invariant-loop-node
invariant-loop-node l = (node : ℕ) → node < l.node → is_in node l.nodes.items ≡ true
