use Rattle.std.proofs.Common.{◌≡◌, ◌<◌, ℕ, length}
use Rattle.n_sim.specs.Lanes.{stream}
use Rattle.n_sim.proofs.Edges.{moving}
use Rattle.n_sim.proofs.lanes.take_edge.Given as goal

abbrev pub invariant-loop-i : goal.invariant-loop-i
invariant-loop-i l = (length l.state ≡ length l.flops) × ((j : ℕ) → j < 64 → stream j l.state ≡ moving (stream j l.nets) l.flops (stream j l.initial.state) l.i)
