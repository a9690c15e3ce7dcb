use Rattle.std.proofs.Common.{◌≡◌, length}
use Rattle.n_sim.proofs.Edges.{moving}
use Rattle.n_sim.proofs.sim.take_edge.Given as goal

abbrev pub invariant-loop-i : goal.invariant-loop-i
invariant-loop-i l = (length l.state ≡ length l.flops) × (l.state ≡ moving l.nets l.flops l.initial.state l.i)
