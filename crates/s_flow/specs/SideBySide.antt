-- The words of streams that run side by side, and what one turn of all of them is.
use Rattle.std.specs.Prelude.{◌≡◌, ◌+◌, ℕ, zero, suc, List, [], ◌∷◌, length, take, drop, Bool, Some, slice_get}
use Rattle.lz_base.specs.Bits.{word_of}
use Rattle.lz_base.specs.WordValue.{WordValue}
use Rattle.lz_base.specs.declared.name.Port.{Port}
use Rattle.n_cells.specs.Netlist.{NetlistValue}
use Rattle.n_cells.specs.Run.{IsValuation, shown, next_state}
use Rattle.n_sim.specs.Lanes.{stream}

-- the words that bits make at ports, one word behind the other
abbrev pub words_at : List Port → List Bool → List WordValue
words_at [] bits = []
words_at (p ∷ ps) bits = word_of (take p.width bits) ∷ words_at ps (drop p.width bits)

-- the words of so many streams, from this one on
abbrev pub lines_from : List Port → List ℕ → ℕ → ℕ → List (List WordValue)
lines_from ports lanes j zero = []
lines_from ports lanes j (suc count) = words_at ports (stream j lanes) ∷ lines_from ports lanes (j + 1) count

-- Each of the first streams takes one of the lines in a cycle of its own, and shows one.
pub record IsTurn (n : NetlistValue) (before after : List ℕ) (lines words : List (List WordValue)) : Type 0 where
  pub long : length words ≡ length lines
  pub cycle : (j : ℕ) (line : List WordValue) → slice_get lines j ≡ Some line
      → (values : List Bool) × IsValuation n line (stream j before) values × (slice_get words j ≡ Some (shown n values)) × (stream j after ≡ next_state n (stream j before) values)
