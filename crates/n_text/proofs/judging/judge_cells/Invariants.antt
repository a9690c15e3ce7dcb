use Rattle.std.proofs.Common.{◌≡◌, ◌+◌, drop, length, flat_map}
use Rattle.n_cells.specs.Netlist.{cell_nets, HaveShapes}
use Rattle.n_cells.specs.Text.{cell_line}
use Rattle.n_text.specs.Referred.{wrong_cells}
use Rattle.n_text.proofs.judging.judge_cells.Given as goal

abbrev pub invariant-loop-cell : goal.invariant-loop-cell
invariant-loop-cell l = record {
  shapes : HaveShapes (drop l.cell-index l.cells);
  nets : l.next + cell_nets (drop l.cell-index l.cells) ≡ l.first + cell_nets l.cells;
  place : l.at + length (flat_map cell_line (drop l.cell-index l.cells)) ≡ l.initial.at + length (flat_map cell_line l.cells);
  wrong : wrong_cells l.first l.initial.at l.cells ≡ wrong_cells l.next l.at (drop l.cell-index l.cells);
}
