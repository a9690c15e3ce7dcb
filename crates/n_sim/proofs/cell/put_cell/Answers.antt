use Rattle.std.proofs.Common.{length, arith}
use Rattle.n_sim.proofs.Cells.{below_wider}
use Rattle.n_sim.proofs.cell.put_cell.Goals as goal

pub index-requires-clause-there : goal.index-requires-clause-there
index-requires-clause-there c =
    let there = rw c.in-Lut.is at c.requires.there in
    let room = rw c.in-Lut.is at c.requires.room in
    below_wider c.args.next (length c.args.nets.now) c.in-Lut.leaves (omega arith) there
