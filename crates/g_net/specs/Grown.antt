-- Networks that have grown: gates came behind those that were there.
use Rattle.std.specs.Prelude.{◌≡◌, ℕ, ◌/◌, ◌<◌, List, ◌++◌, length, Bool}
use Rattle.g_net.specs.declared.network.Gate.{Gate}
use Rattle.g_net.specs.Network.{NetworkValue, source_bits, node_count}
use Rattle.g_net.specs.Run.{literal_value, GateHolds}
use Rattle.g_net.specs.Walk.{values_of}

-- these gates came behind those that were there, and all else is as it was
pub record Grows (old new : NetworkValue) : Type 0 where
  pub more : List Gate
  pub grown : new ≡ record old { gates = old.gates ++ more }

-- no literal that was there has another value
abbrev pub KeepsValues : NetworkValue → NetworkValue → Type 0
KeepsValues old new =
    (sources : List Bool) (literal : ℕ) → length sources ≡ source_bits old → literal / 2 < node_count old
    → literal_value (values_of new sources) literal ≡ literal_value (values_of old sources) literal

-- the gate stands at this node: its equation holds, whatever the bits of the inputs and the flip-flops are
abbrev pub StandsAt : NetworkValue → ℕ → Gate → Type 0
StandsAt n node gate = (sources : List Bool) → length sources ≡ source_bits n → GateHolds (values_of n sources) node gate
