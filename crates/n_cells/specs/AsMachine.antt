-- A netlist as a machine.
use Rattle.std.specs.Prelude.{List, Bool}
use Rattle.lz_base.specs.WordValue.{WordValue}
use Rattle.lz_circuit.specs.Circuit.{Circuit, CircuitDoes, circuit_machine}
use Rattle.lz_machine.specs.Machine.{Machine}
use Rattle.n_cells.specs.Netlist.{NetlistValue}
use Rattle.n_cells.specs.Run.{IsValuation, shown, next_state, first_state}

abbrev pub netlist_circuit : NetlistValue → Circuit
netlist_circuit n = record {
  name = n.name;
  clock = n.clock;
  inputs = n.inputs;
  outputs = n.outputs;
  first = first_state n;
  IsValuation = IsValuation n;
  shown = shown n;
  next = next_state n;
}

-- what a netlist does in a cycle
abbrev pub NetlistDoes : NetlistValue → List Bool → List WordValue → List WordValue → List Bool → Type 0
NetlistDoes n = CircuitDoes (netlist_circuit n)

abbrev pub netlist_machine : NetlistValue → Machine
netlist_machine n = circuit_machine (netlist_circuit n)
