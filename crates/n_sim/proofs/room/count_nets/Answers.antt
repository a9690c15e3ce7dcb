use Rattle.std.proofs.Common.{ap, arith}
use Rattle.n_cells.specs.Cell.{stored_of}
use Rattle.n_cells.specs.Netlist.{cell_nets}
use Rattle.lz_base.proofs.Lists.{drop_next}
use Rattle.n_sim.proofs.room.count_nets.Goals as goal

pub loop-i-preserved : goal.loop-i-preserved
loop-i-preserved c = omega (arith, ap cell_nets (drop_next c.args.netlist.now.cells c.loop-i.i (stored_of c.cell.result) c.cell.ensures.cell))
