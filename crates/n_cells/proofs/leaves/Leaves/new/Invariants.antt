use Rattle.std.proofs.Common.{◌≡◌, length, take}
use Rattle.n_cells.proofs.leaves.Leaves.new.Given as goal

abbrev pub invariant-loop-i : goal.invariant-loop-i
invariant-loop-i l = (length l.nets ≡ 6) × (take l.i l.nets ≡ take l.i l.leaves)
