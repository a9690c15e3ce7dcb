-- What a netlist does in a cycle.
use Rattle.std.specs.Prelude.{◌≡◌, ℕ, ◌+◌, ◌*◌, ◌/◌, ◌%◌, ◌^◌, List, [], ◌∷◌, ◌++◌, length, map, take, ⊤, Bool, true, false, ◌==◌, if◌then◌else◌}
use Rattle.std.specs.Bool.{xor}
use Rattle.std.specs.Simd.Lanes.{zip2}
use Rattle.lz_base.specs.Bits.{word_of, words_bits}
use Rattle.lz_base.specs.WordValue.{WordValue}
use Rattle.lz_circuit.specs.Values.{value_at, majority}
use Rattle.n_cells.specs.declared.netlist.Flop.{Flop}
use Rattle.n_cells.specs.declared.netlist.Stored.{Stored}
use Rattle.n_cells.specs.declared.netlist.Stored.TheVariants.{Lut, Carry}
use Rattle.n_cells.specs.Netlist.{NetlistValue, net_count, first_net}

-- the number that the leaves' bits make, the first leaf's bit lowest
abbrev pub index_of : List Bool → List ℕ → ℕ
index_of values [] = 0
index_of values (leaf ∷ leaves) = (if value_at values leaf then 1 else 0) + 2 * index_of values leaves

-- bit i of a table
abbrev pub table_bit : ℕ → ℕ → Bool
table_bit table i = (table / 2 ^ i % 2) == 1

-- Each cell's equation holds, where the first cell's first net has this number: a look-up table shows the bit that
-- its leaves choose, a carry cell the exclusive or, and on its second net the majority, of its three nets.
abbrev pub CellsHold : List Bool → ℕ → List Stored → Type 0
CellsHold values next [] = ⊤
CellsHold values next (Lut leaves table ∷ cells) = (value_at values next ≡ table_bit table (index_of values leaves)) × CellsHold values (next + 1) cells
CellsHold values next (Carry a b c ∷ cells) =
    (value_at values next ≡ xor (value_at values a) (xor (value_at values b) (value_at values c)))
    × (value_at values (next + 1) ≡ majority (value_at values a) (value_at values b) (value_at values c))
    × CellsHold values (next + 2) cells

-- The values of all nets in a cycle, for the words at the inputs and the bits in the flip-flops: net 0 is 0, net 1 is
-- 1, then come the bits of the inputs, the flip-flops, and the nets of the cells, which satisfy every equation.
pub record IsValuation (n : NetlistValue) (inputs : List WordValue) (state values : List Bool) : Type 0 where
  pub count : length values ≡ net_count n
  pub front : take (first_net n.inputs n.flops) values ≡ false ∷ true ∷ words_bits inputs ++ state
  pub cells : CellsHold values (first_net n.inputs n.flops) n.cells

-- the words at the outputs
abbrev pub shown : NetlistValue → List Bool → List WordValue
shown n values = map (λ nets. word_of (map (value_at values) nets)) n.nets

-- What flip-flops with these bits hold behind the edge: the value of the net where the enable's is 1, and else the bit.
abbrev pub after_edge : List Bool → List Flop → List Bool → List Bool
after_edge values flops bits = zip2 (λ f bit. if value_at values f.enable then value_at values f.net else bit) flops bits

-- the bits in the flip-flops behind the edge, where these are the bits before it and the values of the nets
abbrev pub next_state : NetlistValue → List Bool → List Bool → List Bool
next_state n state values = after_edge values n.flops state

-- what the flip-flops hold at first
abbrev pub first_state : NetlistValue → List Bool
first_state n = map (λ f. f.first) n.flops

-- A run from a state on: in each cycle, for the words at the inputs, the words that the netlist shows at the outputs.
abbrev pub Runs : NetlistValue → List Bool → List (List WordValue) → List (List WordValue) → Type 0
Runs n state [] [] = ⊤
Runs n state [] (outputs ∷ more) = ⊥
Runs n state (inputs ∷ cycles) [] = ⊥
Runs n state (inputs ∷ cycles) (outputs ∷ more) =
    (values : List Bool) × IsValuation n inputs state values × (outputs ≡ shown n values) × Runs n (next_state n state values) cycles more
