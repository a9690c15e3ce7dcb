-- What simulations of a netlist over a stimulus answer.
use Rattle.std.specs.Prelude.{◌≡◌, ◌<◌, ◌-◌, ℕ, zero, suc, List, [], ◌∷◌, length, map}
use Rattle.lz_base.specs.WordValue.{WordValue}
use Rattle.lz_base.specs.declared.name.Port.{Port}
use Rattle.n_cells.specs.Netlist.{NetlistValue}
use Rattle.n_cells.specs.Run.{Runs, first_state}

-- the widths of ports, in order
abbrev pub widths_of : List Port → List ℕ
widths_of ports = map (λ p. p.width) ports

-- behind so many items that are skipped, every COUNT-th item of a list: the next one, and then again and again the one
-- that stands COUNT behind it
abbrev pub every : {A : Type 0} → ℕ → ℕ → List A → List A
every count skipped [] = []
every count zero (x ∷ xs) = x ∷ every count (count - 1) xs
every count (suc skipped) (x ∷ xs) = every count skipped xs

-- COUNT streams in turn: line i of the stimulus, from 0, belongs to stream i mod COUNT, and line i of the trace is what
-- the netlist shows for it in a run of its own over the lines of that stream.
pub record RunsInTurn (n : NetlistValue) (count : ℕ) (stimulus trace : List (List WordValue)) : Type 0 where
  pub long : length trace ≡ length stimulus
  pub runs : (stream : ℕ) → stream < count → Runs n (first_state n) (every count stream stimulus) (every count stream trace)
