-- What the calls of a builder make of its network.
use Rattle.std.specs.Prelude.{◌≡◌, ℕ, ◌<◌, ◌/◌, List, length, slice_get, Bool, Some}
use Rattle.g_net.specs.declared.network.Gate.{Gate}
use Rattle.g_net.specs.Grown.{Grows, KeepsValues}
use Rattle.g_net.specs.Network.{NetworkValue, node_count, source_bits}
use Rattle.g_net.specs.Run.{literal_value}
use Rattle.g_net.specs.Walk.{values_of}

-- Gates came behind those that were there, all else is as it was, and no literal that was there has another value.
pub record Builds (old new : NetworkValue) : Type 0 where
  pub grows : Grows old new
  pub keeps : KeepsValues old new

-- The literal is there, and whatever the bits of the inputs and the flip-flops are, it has this value, which may depend on
-- the values of the nodes.
pub record HasValue (n : NetworkValue) (literal : ℕ) (value : List Bool → Bool) : Type 0 where
  pub there : literal / 2 < node_count n
  pub equal : (sources : List Bool) → length sources ≡ source_bits n → literal_value (values_of n sources) literal ≡ value (values_of n sources)

-- no two of these gates are equal
abbrev pub AllDiffer : List Gate → Type 0
AllDiffer gates = (i j : ℕ) (gate : Gate) → slice_get gates i ≡ Some gate → slice_get gates j ≡ Some gate → i ≡ j
