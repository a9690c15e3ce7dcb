use Rattle.std.proofs.Common.{◌≡◌, length, take}
use Rattle.v_depends.specs.Nodes.{Adds, Marked}
use Rattle.v_depends.proofs.walking.reach_all.Given as goal

abbrev pub invariant-loop-node : goal.invariant-loop-node
invariant-loop-node l = record {
  marked : Marked l.initial.reached → Marked l.reached;
  long : length l.reached.marks ≡ length l.initial.reached.marks;
  adds : Marked l.initial.reached → Adds (length l.initial.reached.marks) l.initial.reached.order.items (take l.node-index l.nodes) l.reached.order.items;
}
