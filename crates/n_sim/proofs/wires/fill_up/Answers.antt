use Rattle.std.proofs.Common.{ℕ, arith}
use Rattle.std.proofs.lemmas.Grind.{common_steps}
use Rattle.std.proofs.Math.ListN.{length-set}
use Rattle.n_sim.proofs.Cells.{zeros_next}
use Rattle.n_sim.proofs.wires.fill_up.Goals as goal

pub loop-i-preserved : goal.loop-i-preserved
loop-i-preserved c = (
  omega (arith, length-set {A = ℕ}),
  grind (arith, common_steps),
  zeros_next c.loop-i.nets c.loop-i.i _ c.loop-i.invariant.2,
)
