use Rattle.std.proofs.Common.{◌≡◌, ◌<◌, Some, slice_get, length, refl, arith}
use Rattle.std.proofs.lemmas.Option.{slice_get_read}
use Rattle.n_parts.proofs.Filling.{cells_made, backwards_next, shapes_next}
use Rattle.n_parts.proofs.making.fill_cells.Goals as goal

pub loop-cell-preserved : goal.loop-cell-preserved
loop-cell-preserved c =
    let cells = c.args.cells.now in
    let i = c.loop-cell.cell-index in
    let bound : i < length cells = omega arith in
    let here : slice_get cells i ≡ Some c.cell-item.result = slice_get_read cells (length cells) i c.cell-item.result refl bound c.cell-item.is in
    record {
      made = cells_made c.args.maker.now c.loop-cell.maker c.add_cell.new.maker cells i _ _ here c.cell.ensures c.loop-cell.invariant.made c.in_ok-add_cell.ensures;
      shapes = shapes_next cells i _ here c.loop-cell.invariant.shapes;
      backwards = backwards_next c.loop-cell.maker c.add_cell.new.maker cells i _ _ here c.cell.ensures c.in_ok-add_cell.ensures c.loop-cell.invariant.backwards;
    }
