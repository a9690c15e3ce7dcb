-- Sixty-four streams at once: a word of 64 bits holds the bit of each, stream j's at bit j.
use Rattle.std.specs.Prelude.{◌≡◌, ℕ, List, map, Bool, ◌==◌}
use Rattle.lz_base.specs.Bits.{bit_of, words_bits}
use Rattle.lz_base.specs.Ports.{FitPorts}
use Rattle.lz_base.specs.WordValue.{WordValue}
use Rattle.n_cells.specs.Netlist.{NetlistValue}
use Rattle.n_cells.specs.Run.{IsValuation, shown, next_state}

-- the bit of stream j
abbrev pub lane : ℕ → ℕ → Bool
lane j word = bit_of word j == 1

-- the bits of stream j
abbrev pub stream : ℕ → List ℕ → List Bool
stream j words = map (lane j) words

-- Stream j does one cycle of the netlist's run: for the words at the inputs whose bits it has there, it has the bits of
-- the words that the netlist shows at the outputs, and goes on to the netlist's next state.
abbrev pub IsCycleOf : NetlistValue → (input before out after : List ℕ) → ℕ → Type 0
IsCycleOf n input before out after j =
    (inputs : List WordValue) → FitPorts n.inputs inputs → words_bits inputs ≡ stream j input
    → (values : List Bool) × IsValuation n inputs (stream j before) values
    × (stream j out ≡ words_bits (shown n values)) × (stream j after ≡ next_state n (stream j before) values)
