-- The parts of a netlist whose lines were read, lent.
use Rattle.std.specs.Option.{option_copied}
use Rattle.n_cells.specs.Netlist.{NetlistValue}
use Rattle.n_text.specs.declared.raw.Lent.{Lent}

abbrev pub lent_value : Lent → NetlistValue
lent_value p = record { name = p.name.now; clock = option_copied p.clock; inputs = p.inputs.now; flops = p.flops.now; cells = p.cells.now; outputs = p.outputs.now; nets = p.nets.now }
