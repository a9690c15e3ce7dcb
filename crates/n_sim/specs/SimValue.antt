-- What contracts see of the simulators.
use Rattle.std.specs.Prelude.{ℕ, List, Bool}
use Rattle.n_cells.specs.Netlist.{NetlistValue}

-- the netlist, and the bits in its flip-flops
pub record SimValue : Type 0 where
  pub netlist : NetlistValue
  pub state : List Bool

-- the netlist, and a word of 64 bits for each of its flip-flops, stream j's bit at bit j
pub record LanesValue : Type 0 where
  pub netlist : NetlistValue
  pub state : List ℕ
