-- What a netlist of format 1 does: its flip-flops have no enable.
use Rattle.std.specs.Prelude.{◌≡◌, List, [], ◌∷◌, map, ⊤, Bool}
use Rattle.lz_base.specs.WordValue.{WordValue}
use Rattle.lz_circuit.specs.Values.{value_at}
use Rattle.n_cells.specs.Netlist.{NetlistValue}
use Rattle.n_cells.specs.Run.{IsValuation, shown}

-- the bits in the flip-flops behind the edge: each has the value of its net
abbrev pub old_next_state : NetlistValue → List Bool → List Bool
old_next_state n values = map (λ f. value_at values f.net) n.flops

-- A run from a state on, as `Runs`, whatever the enables are.
abbrev pub OldRuns : NetlistValue → List Bool → List (List WordValue) → List (List WordValue) → Type 0
OldRuns n state [] [] = ⊤
OldRuns n state [] (outputs ∷ more) = ⊥
OldRuns n state (inputs ∷ cycles) [] = ⊥
OldRuns n state (inputs ∷ cycles) (outputs ∷ more) =
    (values : List Bool) × IsValuation n inputs state values × (outputs ≡ shown n values) × OldRuns n (old_next_state n values) cycles more
