use Rattle.std.proofs.Common.{◌≡◌, length, take, drop}
use Rattle.n_sim.specs.Wires.{AreZero}
use Rattle.n_sim.proofs.wires.fill_up.Given as goal

abbrev pub invariant-loop-i : goal.invariant-loop-i
invariant-loop-i l = (length l.nets ≡ 6) × (take l.i l.nets ≡ take l.i l.leaves) × AreZero (drop l.i l.nets)
