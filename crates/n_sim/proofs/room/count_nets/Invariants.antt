use Rattle.std.proofs.Common.{◌≡◌, ◌+◌, drop}
use Rattle.n_cells.specs.Netlist.{cell_nets, net_count}
use Rattle.n_sim.proofs.room.count_nets.Given as goal

abbrev pub invariant-loop-i : goal.invariant-loop-i
invariant-loop-i l = l.count + cell_nets (drop l.i l.netlist.cells) ≡ net_count l.netlist
