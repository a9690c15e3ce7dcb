-- A cell that is to be made, as a netlist keeps it.
use Rattle.n_cells.specs.declared.netlist.Stored.{Stored}
use Rattle.n_cells.specs.declared.netlist.Stored.TheVariants as stored
use Rattle.n_parts.specs.declared.piece.Kept.{Kept}
use Rattle.n_parts.specs.declared.piece.Kept.TheVariants as kept

abbrev pub kept_of : Kept → Stored
kept_of (kept.Lut leaves table) = stored.Lut leaves table
kept_of (kept.Carry a b c) = stored.Carry a b c
