use Rattle.std.proofs.Common.{◌≡◌, ◌++◌, flat_map, take}
use Rattle.m_valid.specs.Nodes.{flip_nodes}
use Rattle.m_valid.proofs.nodes.push_flips.Given as goal

abbrev pub invariant-loop-flip : goal.invariant-loop-flip
invariant-loop-flip l = l.all.items ≡ l.initial.all.items ++ flat_map flip_nodes (take l._flip-index l.flips)
