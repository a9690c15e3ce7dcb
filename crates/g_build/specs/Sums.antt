-- Sums of three literals.
use Rattle.std.specs.Prelude.{◌≡◌, ℕ, ◌<◌, ◌/◌, List, Bool}
use Rattle.std.specs.Bool.{xor}
use Rattle.g_net.specs.Run.{literal_value}
use Rattle.lz_circuit.specs.Values.{majority}

abbrev pub Trio : Type 0
Trio = ℕ × ℕ × ℕ

abbrev pub sum_value : List Bool → Trio → Bool
sum_value values t = xor (literal_value values t.0) (xor (literal_value values t.1) (literal_value values t.2))

abbrev pub majority_value : List Bool → Trio → Bool
majority_value values t = majority (literal_value values t.0) (literal_value values t.1) (literal_value values t.2)

-- the nodes of the literals are below
abbrev pub TrioBelow : ℕ → Trio → Type 0
TrioBelow count t = (t.0 / 2 < count) × (t.1 / 2 < count) × (t.2 / 2 < count)

-- the second three literals have the sum and the majority of the first, and speak of no other nodes
pub record SameSum (t u : Trio) : Type 0 where
  pub sum : (values : List Bool) → sum_value values u ≡ sum_value values t
  pub majority : (values : List Bool) → majority_value values u ≡ majority_value values t
  pub below : (count : ℕ) → TrioBelow count t → TrioBelow count u

-- two literals have the sum and the majority of three, and speak of no other nodes
pub record IsSum (t : Trio) (r : ℕ × ℕ) : Type 0 where
  pub sum : (values : List Bool) → literal_value values r.0 ≡ sum_value values t
  pub majority : (values : List Bool) → literal_value values r.1 ≡ majority_value values t
  pub below : (count : ℕ) → TrioBelow count t → (r.0 / 2 < count) × (r.1 / 2 < count)
