use Rattle.std.proofs.Common.{◌≡◌, length, map, take, slice_index}
use Rattle.m_assembly.proofs.draft.leaf_nets.Given as goal

abbrev pub invariant-loop-i : goal.invariant-loop-i
invariant-loop-i l = (length l.made ≡ 6) × (take l.i l.made ≡ map (slice_index l.nets) (take l.i l.leaves))
