-- Sums with their carry out, and inverted words.
use Rattle.std.specs.Prelude.{◌≡◌, ℕ, ◌+◌, ◌*◌, ◌^◌, ◌<◌, ◌/◌, List, length, Bool}
use Rattle.g_net.specs.Network.{NetworkValue, LiteralsBelow, node_count, source_bits}
use Rattle.g_arith.specs.Operators.{bit}
use Rattle.g_arith.specs.Words.{number_in, bit_in, word_value}

-- The bits and the carry out are there, and together they make the sum of the numbers that two words and a carry had.
pub record IsSum (old new : NetworkValue) (x y : List ℕ) (carry : ℕ) (bits : List ℕ) (out : ℕ) : Type 0 where
  pub long : length bits ≡ length x
  pub bits_there : LiteralsBelow (node_count new) bits
  pub out_there : out / 2 < node_count new
  pub equal : (sources : List Bool) → length sources ≡ source_bits old
      → number_in new sources bits + 2 ^ length bits * bit (bit_in new sources out) ≡ number_in old sources x + number_in old sources y + bit (bit_in old sources carry)

-- Of the same width, over the same nodes, and with a number that makes, with the word's and 1, a power of two: each
-- literal is inverted.
pub record IsInverse (word bits : List ℕ) : Type 0 where
  pub long : length bits ≡ length word
  pub there : (count : ℕ) → LiteralsBelow count word → LiteralsBelow count bits
  pub equal : (values : List Bool) → word_value values bits + word_value values word + 1 ≡ 2 ^ length word
