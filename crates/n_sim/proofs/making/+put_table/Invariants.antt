use Rattle.std.proofs.Common.{length}
use Rattle.n_sim.proofs.making.+put_table.Given as goal

abbrev pub decreases-put_table : goal.decreases-put_table
decreases-put_table l = length l.leaves.now
