use Rattle.std.proofs.Common.{◌≡◌, ◌++◌, drop, take, flat_map}
use Rattle.n_cells.specs.Text.{cell_line}
use Rattle.n_cells.specs.Form.{bound, CellsBelow}
use Rattle.n_text.proofs.printing.push_cells.Given as goal

abbrev pub invariant-loop-i : goal.invariant-loop-i
invariant-loop-i l = record {
  text : l.out.items ++ flat_map cell_line (drop l.i l.netlist.cells) ≡ l.initial.out.items ++ flat_map cell_line l.netlist.cells;
  below : CellsBelow bound (take l.i l.netlist.cells);
}
