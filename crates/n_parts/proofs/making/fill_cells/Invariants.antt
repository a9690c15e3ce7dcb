use Rattle.std.proofs.Common.{◌≡◌, ◌++◌, take, drop}
use Rattle.n_cells.specs.Netlist.{net_count, HaveShapes, ReadBackwards}
use Rattle.n_parts.proofs.making.fill_cells.Given as goal

abbrev pub invariant-loop-cell : goal.invariant-loop-cell
invariant-loop-cell l = record {
  made : l.maker ≡ record l.initial.maker { cells = l.initial.maker.cells ++ take l.cell-index l.cells };
  shapes : HaveShapes (drop l.cell-index l.cells);
  backwards : ReadBackwards (net_count l.maker) (drop l.cell-index l.cells);
}
