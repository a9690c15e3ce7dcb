-- A netlist's cells, laid out for evaluation.
use Rattle.n_cells.specs.declared.netlist.Stored.{Stored}
use Rattle.n_cells.specs.declared.netlist.Stored.TheVariants as stored
use Rattle.n_sim.specs.declared.gate.Kind.{Kind}
use Rattle.n_sim.specs.declared.gate.Kind.TheVariants as kind

-- the cell that is laid out so
abbrev pub kind_cell : Kind → Stored
kind_cell (kind.Lut leaves table) = stored.Lut leaves table
kind_cell (kind.Carry a b c) = stored.Carry a b c
