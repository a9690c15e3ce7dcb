-- A network as a machine.
use Rattle.std.specs.Prelude.{List, length, map, Bool}
use Rattle.lz_base.specs.WordValue.{WordValue}
use Rattle.lz_base.specs.declared.name.Port.{Port}
use Rattle.lz_circuit.specs.Circuit.{Circuit, CircuitDoes, circuit_machine}
use Rattle.lz_machine.specs.Machine.{Machine}
use Rattle.g_net.specs.declared.network.Output.{Output}
use Rattle.g_net.specs.Network.{NetworkValue}
use Rattle.g_net.specs.Run.{IsValuation, shown, next_state, first_state}

-- an output as a port: it has a bit for each literal
abbrev pub port_of : Output → Port
port_of o = record { name = o.name; width = length o.literals }

abbrev pub network_circuit : NetworkValue → Circuit
network_circuit n = record {
  name = n.name;
  clock = n.clock;
  inputs = n.inputs;
  outputs = map port_of n.outputs;
  first = first_state n;
  IsValuation = IsValuation n;
  shown = shown n;
  next = next_state n;
}

-- what a network does in a cycle
abbrev pub NetworkDoes : NetworkValue → List Bool → List WordValue → List WordValue → List Bool → Type 0
NetworkDoes n = CircuitDoes (network_circuit n)

abbrev pub network_machine : NetworkValue → Machine
network_machine n = circuit_machine (network_circuit n)
