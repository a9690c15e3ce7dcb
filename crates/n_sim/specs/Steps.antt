-- Steps, to which a netlist's cells are laid out for many streams: a list of bits grows by one bit for each step. No
-- public clause names them.
use Rattle.std.specs.Prelude.{◌≡◌, ◌<◌, ◌+◌, ℕ, List, [], ◌∷◌, ◌++◌, length, map, ⊤, Bool, true, false, ◌&&◌, slice_index_or}
use Rattle.std.specs.Bool.{xor}
use Rattle.lz_circuit.specs.Values.{value_at}
use Rattle.n_cells.specs.declared.netlist.Flop.{Flop}
use Rattle.n_cells.specs.declared.netlist.Stored.{Stored}
use Rattle.n_cells.specs.Netlist.{NetlistValue, AllBelow, cell_nets, first_net}
use Rattle.n_cells.specs.Walk.{all_values}
use Rattle.n_sim.specs.declared.step.Step.{Step}

-- the bit of a step, from the bits before it
abbrev pub step_bit : List Bool → Step → Bool
step_bit values s = xor (value_at values s.base) (value_at values s.change && value_at values s.by)

-- the bits that are there, and behind them those of the steps, each in turn
abbrev pub run_steps : List Bool → List Step → List Bool
run_steps values [] = values
run_steps values (s ∷ ss) = run_steps (values ++ step_bit values s ∷ []) ss

-- the places that a step reads are below
abbrev pub StepBelow : ℕ → Step → Type 0
StepBelow high s = (s.base < high) × (s.change < high) × (s.by < high)

-- each step reads places before its own, where the first one's has this number
abbrev pub AreBackwards : ℕ → List Step → Type 0
AreBackwards next [] = ⊤
AreBackwards next (s ∷ ss) = StepBelow next s × AreBackwards (next + 1) ss

-- so many bits before the steps, of which the first two are the constants
pub record IsFront (first : ℕ) (front : List Bool) : Type 0 where
  pub long : length front ≡ first
  pub zero : value_at front 0 ≡ false
  pub one : value_at front 1 ≡ true

-- the steps are longer by some, and read backwards
pub record Extends (first : ℕ) (old new : List Step) : Type 0 where
  pub back : AreBackwards first new
  pub more : (steps : List Step) × (new ≡ old ++ steps)

-- whatever stands before the steps, the bit at this place is so made of all bits
pub record Holds (first : ℕ) (steps : List Step) (place : ℕ) (bit : List Bool → Bool) : Type 0 where
  pub there : place < first + length steps
  pub value : (front : List Bool) → IsFront first front → value_at (run_steps front steps) place ≡ bit (run_steps front steps)

-- The steps make the values of all nets up to the last of these cells, where net after net has one of these places.
pub record Computes (first : ℕ) (steps : List Step) (places : List ℕ) (cells : List Stored) : Type 0 where
  pub back : AreBackwards first steps
  pub count : length places ≡ first + cell_nets cells
  pub there : AllBelow (first + length steps) places
  pub values : (front : List Bool) → IsFront first front → map (value_at (run_steps front steps)) places ≡ all_values front cells

-- the place of a net
abbrev pub place_at : List ℕ → ℕ → ℕ
place_at places net = slice_index_or places net 0

-- a flip-flop that takes the word at its net's place
abbrev pub moved : List ℕ → Flop → Flop
moved places f = record { first = f.first; net = place_at places f.net; enable = place_at places f.enable }

-- all lists of nets as one
unfoldable pub joined : List (List ℕ) → List ℕ
joined [] = []
joined (ns ∷ more) = ns ++ joined more

-- A netlist, laid out: the steps of its cells, the places of the outputs' nets, and the flip-flops at places, where net
-- after net has one of these places.
pub record IsLaidOut (n : NetlistValue) (steps : List Step) (shown : List ℕ) (flops : List Flop) (places : List ℕ) : Type 0 where
  pub computes : Computes (first_net n.inputs n.flops) steps places n.cells
  pub outputs : shown ≡ map (place_at places) (joined n.nets)
  pub edges : flops ≡ map (moved places) n.flops
