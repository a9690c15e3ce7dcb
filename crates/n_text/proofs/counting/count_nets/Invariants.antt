use Rattle.std.proofs.Common.{◌≡◌, ◌≤◌, ◌+◌, ◌*◌, drop}
use Rattle.n_cells.specs.Netlist.{cell_nets}
use Rattle.n_text.proofs.counting.count_nets.Given as goal

abbrev pub invariant-loop-cell : goal.invariant-loop-cell
invariant-loop-cell l = record {
  count : l.nets + cell_nets (drop l.cell-index l.cells) ≡ cell_nets l.cells;
  bound : l.nets ≤ 2 * l.cell-index;
}
