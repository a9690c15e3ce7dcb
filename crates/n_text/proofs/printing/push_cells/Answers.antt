use Rattle.lz_lines.proofs.Listed.{flat_map_next, goes_out}
use Rattle.n_cells.specs.Text.{cell_line}
use Rattle.n_text.proofs.Forming.{cells_next}
use Rattle.n_text.proofs.printing.push_cells.Goals as goal

pub loop-i-preserved : goal.loop-i-preserved
loop-i-preserved c = record {
  text = goes_out _ _ _ _ _ _ c.in_ok-push_cell.ensures.text c.loop-i.invariant.text (flat_map_next cell_line c.args.netlist.now.cells c.loop-i.i _ c.cell.ensures.cell);
  below = cells_next _ c.args.netlist.now.cells c.loop-i.i _ c.loop-i.invariant.below c.cell.ensures.cell c.in_ok-push_cell.ensures.below;
}
