-- What contracts see of the parts of a netlist.
use Rattle.n_cells.specs.Netlist.{NetlistValue}
use Rattle.n_parts.specs.declared.parts.Parts.TheInside as parts

abbrev pub parts_value : parts.Inside → NetlistValue
parts_value p = record { name = p.name; clock = p.clock; inputs = p.inputs; flops = p.flops; cells = p.cells; outputs = p.outputs; nets = p.nets }
