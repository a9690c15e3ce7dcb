-- A circuit as a machine.
use Rattle.std.specs.Prelude.{◌≡◌, ℕ, List, Option, Bool}
use Rattle.lz_base.specs.WordValue.{WordValue}
use Rattle.lz_base.specs.declared.name.Port.{Port}
use Rattle.lz_machine.specs.Machine.{Machine}

-- what a netlist or a network is in a cycle, whatever it is made of
pub record Circuit : Type 1 where
  pub name : List ℕ
  pub clock : Option (List ℕ)
  pub inputs : List Port
  pub outputs : List Port
  -- what the flip-flops hold at first
  pub first : List Bool
  -- These are the values of all nets or nodes, for the words at the inputs and the bits in the flip-flops.
  pub IsValuation : List WordValue → List Bool → List Bool → Type 0
  -- the words at the outputs, under these values
  pub shown : List Bool → List WordValue
  -- the bits in the flip-flops behind the edge, where these are the bits before it and the values
  pub next : List Bool → List Bool → List Bool

-- What a circuit does in a cycle from a state: under its valuation it shows these words, and goes on to this state.
pub record CircuitDoes (c : Circuit) (state : List Bool) (inputs outputs : List WordValue) (after : List Bool) : Type 0 where
  pub values : List Bool
  pub valued : c.IsValuation inputs state values
  pub shows : outputs ≡ c.shown values
  pub goes_on : after ≡ c.next state values

-- its states are the bits in its flip-flops
abbrev pub circuit_machine : Circuit → Machine
circuit_machine c = record {
  State = List Bool;
  name = c.name;
  clock = c.clock;
  inputs = c.inputs;
  outputs = c.outputs;
  Starts = λ state. state ≡ c.first;
  Does = CircuitDoes c;
}
