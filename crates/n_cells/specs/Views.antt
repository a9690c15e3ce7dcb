-- What contracts see of a netlist's lines.
use Rattle.n_cells.specs.declared.netlist.Lines.{Lines}
use Rattle.n_cells.specs.Netlist.{NetlistValue}

abbrev pub lines_value : Lines → NetlistValue
lines_value l = record { name = l.name; clock = l.clock; inputs = l.inputs; flops = l.flops; cells = l.cells; outputs = l.outputs; nets = l.nets }
