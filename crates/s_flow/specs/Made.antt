-- The netlist that is made of a small module: its nets are the constants, the inputs, the registers, and the net of
-- the assigned value where it has a look-up table.
use Rattle.std.specs.Prelude.{◌==◌, ℕ, ◌+◌, ◌*◌, suc, List, [], ◌∷◌, ◌++◌, length, map, Bool, true, false, not, if◌then◌else◌}
use lib.Pointwise.{pointwise}
use denote.Ref.{Bor}
use Rattle.n_cells.specs.Netlist.{NetlistValue}
use Rattle.n_cells.specs.declared.netlist.Flop.{Flop}
use Rattle.n_cells.specs.declared.netlist.Stored.{Stored}
use Rattle.n_cells.specs.declared.netlist.Stored.TheVariants.{Lut}
use Rattle.v_syntax.specs.declared.small.SmallOperator.{SmallOperator}
use Rattle.v_syntax.specs.declared.small.SmallExpr.{SmallExpr}
use Rattle.v_syntax.specs.declared.small.SmallExpr.TheVariants.{One, Two}
use Rattle.v_syntax.specs.declared.small.SmallModule.{SmallModule}
use Rattle.v_syntax.specs.Small.{input_names, register_names}
use Rattle.v_meaning.specs.Cycle.{operate, inputs_of, outputs_of, clock_of}

-- how many names stand before the first of this name
abbrev pub place_of : List (List ℕ) → List ℕ → ℕ
place_of [] name = 0
place_of (n ∷ names) name = if pointwise ◌==◌ n name then 0 else suc (place_of names name)

-- The net of a name. Behind the two constants come the inputs, and then the registers.
abbrev pub net_among : List (List ℕ) → List (List ℕ) → List ℕ → ℕ
net_among inputs registers name = 2 + place_of (inputs ++ registers) name

-- the number of the first net behind the inputs and the registers
abbrev pub free_net : List (List ℕ) → List (List ℕ) → ℕ
free_net inputs registers = 2 + length inputs + length registers

abbrev pub bit_number : Bool → ℕ
bit_number bit = if bit then 1 else 0

-- the bit of an operand whose net has this bit
abbrev pub inverted_if : Bool → Bool → Bool
inverted_if inverted bit = if inverted then not bit else bit

-- the table of two leaves, the first of which has the lower bit of its index
abbrev pub table_of : SmallOperator → Bool → Bool → ℕ
table_of operator a b =
    bit_number (operate operator (inverted_if a false) (inverted_if b false))
    + 2 * bit_number (operate operator (inverted_if a true) (inverted_if b false))
    + 4 * bit_number (operate operator (inverted_if a false) (inverted_if b true))
    + 8 * bit_number (operate operator (inverted_if a true) (inverted_if b true))

-- a register is assigned as it is, its inverse by a table of one leaf, and two operands by a table of two
abbrev pub cells_of : List (List ℕ) → List (List ℕ) → SmallExpr → List Stored
cells_of inputs registers (One a) = if a.inverted then Lut (net_among inputs registers a.name.name ∷ []) 1 ∷ [] else []
cells_of inputs registers (Two a operator b) =
    Lut (net_among inputs registers a.name.name ∷ net_among inputs registers b.name.name ∷ []) (table_of operator a.inverted b.inverted) ∷ []

-- the net of the assigned value
abbrev pub value_net : List (List ℕ) → List (List ℕ) → SmallExpr → ℕ
value_net inputs registers (One a) = if a.inverted then free_net inputs registers else net_among inputs registers a.name.name
value_net inputs registers (Two a operator b) = free_net inputs registers

-- the flip-flops, whose enables are the constant 1: the assigned register takes the value, and each other its own bit
abbrev pub flops_of : ℕ → List (List ℕ) → List ℕ → ℕ → List Flop
flops_of own [] target net = []
flops_of own (name ∷ names) target net = record { first = false; net = if pointwise ◌==◌ name target then net else own; enable = 1 } ∷ flops_of (own + 1) names target net

-- one net for each output, from this one on
abbrev pub nets_from : ℕ → List (List ℕ) → List (List ℕ)
nets_from own [] = []
nets_from own (name ∷ names) = (own ∷ []) ∷ nets_from (own + 1) names

abbrev pub netlist_of : SmallModule → NetlistValue
netlist_of s = record {
  name = s.name.name;
  clock = clock_of s;
  inputs = inputs_of s;
  flops = flops_of (2 + length (input_names s.ports)) (register_names s.ports) s.target.name (value_net (input_names s.ports) (register_names s.ports) s.value);
  cells = cells_of (input_names s.ports) (register_names s.ports) s.value;
  outputs = outputs_of s;
  nets = nets_from (2 + length (input_names s.ports)) (register_names s.ports);
}

-- the names that references point to
abbrev pub names_in : List (Bor (List ℕ)) → List (List ℕ)
names_in names = map (λ n. n.now) names
