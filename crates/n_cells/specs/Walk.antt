-- The values of a netlist's nets, one after another in the order of their numbers.
use Rattle.std.specs.Prelude.{List, [], ◌∷◌, ◌++◌, Bool, true, false}
use Rattle.std.specs.Bool.{xor}
use Rattle.lz_base.specs.Bits.{words_bits}
use Rattle.lz_base.specs.WordValue.{WordValue}
use Rattle.lz_circuit.specs.Values.{value_at, majority}
use Rattle.n_cells.specs.declared.netlist.Stored.{Stored}
use Rattle.n_cells.specs.declared.netlist.Stored.TheVariants.{Lut, Carry}
use Rattle.n_cells.specs.Netlist.{NetlistValue}
use Rattle.n_cells.specs.Run.{index_of, table_bit}

-- the values that a cell adds behind those that it reads
abbrev pub cell_values : List Bool → Stored → List Bool
cell_values values (Lut leaves table) = table_bit table (index_of values leaves) ∷ []
cell_values values (Carry a b c) =
    xor (value_at values a) (xor (value_at values b) (value_at values c)) ∷ majority (value_at values a) (value_at values b) (value_at values c) ∷ []

-- the values before the cells, and behind them those of each cell in turn
abbrev pub all_values : List Bool → List Stored → List Bool
all_values values [] = values
all_values values (c ∷ cs) = all_values (values ++ cell_values values c) cs

-- the values of all nets, for the words at the inputs and the bits in the flip-flops
abbrev pub walked : NetlistValue → List WordValue → List Bool → List Bool
walked n inputs state = all_values (false ∷ true ∷ words_bits inputs ++ state) n.cells
