use Rattle.std.proofs.Common.{◌≡◌, take}
use Rattle.n_sim.proofs.gate.lay_out.Given as goal

abbrev pub invariant-loop-i : goal.invariant-loop-i
invariant-loop-i l = l.gates ≡ take l.i l.netlist.cells
