-- The parts of a network whose lines were read.
use Rattle.std.specs.Option.{option_copied}
use Rattle.g_net.specs.Network.{NetworkValue}
use Rattle.g_text.specs.declared.raw.Parts.{Parts}

abbrev pub parts_value : Parts → NetworkValue
parts_value p = record { name = p.name.now; clock = option_copied p.clock; inputs = p.inputs.now; flips = p.flips.now; gates = p.gates.now; outputs = p.outputs.now }
