-- The values in a circuit, one for each number: those of nets or of nodes.
use Rattle.std.specs.Prelude.{ℕ, List, Bool, false, ◌||◌, ◌&&◌, slice_index_or}

-- the value of a net or a node
abbrev pub value_at : List Bool → ℕ → Bool
value_at values number = slice_index_or values number false

abbrev pub majority : Bool → Bool → Bool → Bool
majority a b c = (a && b) || ((a && c) || (b && c))
