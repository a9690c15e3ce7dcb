use Rattle.std.proofs.Common.{◌≡◌, take}
use Rattle.v_depends.specs.Nodes.{starts_of}
use Rattle.v_depends.proofs.following.starts.Given as goal

abbrev pub invariant-loop-edge : goal.invariant-loop-edge
invariant-loop-edge l = l.nodes.items ≡ starts_of l.on (take l.edge-index l.edges)
