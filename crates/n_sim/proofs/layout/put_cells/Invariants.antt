use Rattle.std.proofs.Common.{take}
use Rattle.n_sim.specs.Steps.{Computes}
use Rattle.n_sim.proofs.layout.put_cells.Given as goal

abbrev pub invariant-loop-index : goal.invariant-loop-index
invariant-loop-index l = Computes l.first l.laid.steps l.laid.places (take l.index l.netlist.cells)
