-- Words of literals, and what their numbers are in a network.
use Rattle.std.specs.Prelude.{◌≡◌, ℕ, ◌<◌, ◌≤◌, ◌/◌, List, length, map, Bool}
use Rattle.lz_base.specs.Bits.{number_of}
use Rattle.g_build.specs.Building.{AllDiffer, Builds}
use Rattle.g_net.specs.Network.{NetworkValue, LiteralsBelow, node_count, source_bits}
use Rattle.g_net.specs.Run.{literal_value}
use Rattle.g_net.specs.Walk.{values_of}

-- the number of a word for these values of the nodes: that of its literals' values, bit 0 first
abbrev pub word_value : List Bool → List ℕ → ℕ
word_value values word = number_of (map (literal_value values) word)

-- the number of a word in a network, for these bits of the inputs and the flip-flops
abbrev pub number_in : NetworkValue → List Bool → List ℕ → ℕ
number_in n sources word = word_value (values_of n sources) word

-- the value of a literal in a network, for these bits of the inputs and the flip-flops
abbrev pub bit_in : NetworkValue → List Bool → ℕ → Bool
bit_in n sources literal = literal_value (values_of n sources) literal

-- The word has this width and its literals are there, and whatever the bits of the inputs and the flip-flops are, it has
-- this number, which may depend on them.
pub record HasNumber (n : NetworkValue) (word : List ℕ) (width : ℕ) (number : List Bool → ℕ) : Type 0 where
  pub long : length word ≡ width
  pub there : LiteralsBelow (node_count n) word
  pub equal : (sources : List Bool) → length sources ≡ source_bits n → number_in n sources word ≡ number sources

-- The literal is there, and whatever the bits of the inputs and the flip-flops are, it has this value, which may depend on
-- them.
pub record HasBit (n : NetworkValue) (literal : ℕ) (bit : List Bool → Bool) : Type 0 where
  pub there : literal / 2 < node_count n
  pub equal : (sources : List Bool) → length sources ≡ source_bits n → bit_in n sources literal ≡ bit sources

-- Gates may have come behind those that were there: no node is gone, no literal that was there has another value, all else is as it was,
-- and if no two gates were equal, no two are.
pub record Adds (old new : NetworkValue) : Type 0 where
  pub builds : Builds old new
  pub longer : node_count old ≤ node_count new
  pub differ : AllDiffer old.gates → AllDiffer new.gates
