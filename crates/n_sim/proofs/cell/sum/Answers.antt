use Rattle.n_sim.proofs.Cells.{three_sum}
use Rattle.n_sim.proofs.cell.sum.Goals as goal

pub returns : goal.returns
returns c = three_sum c.args.a c.args.b c.args.c
