-- The bits of numbers and words. Bit 0 is the least, and lists of bits run from bit 0 up.
use Rattle.std.specs.Prelude.{zero, suc, List, [], ◌∷◌, ◌++◌, length, ℕ, ◌+◌, ◌-◌, ◌/◌, ◌%◌, ◌*◌, ◌^◌, ◌==◌, Bool, ◌&&◌, if◌then◌else◌, nat_le}
use Rattle.lz_base.specs.WordValue.{WordValue}

-- bit i of a number, 0 or 1
abbrev pub bit_of : ℕ → ℕ → ℕ
bit_of value i = value / 2 ^ i % 2

-- the top bit of a word is 1
abbrev pub is_negative : ℕ → ℕ → Bool
is_negative width value = bit_of value (width - 1) == 1

-- the value at another width: cut to its low bits, or with ones or zeros above, where ones are copies of a top bit
-- that is 1 (1364, 5.5.2 and 5.5.3)
abbrev pub resized : ℕ → ℕ → ℕ → Bool → ℕ
resized width value to signed =
    if nat_le to width then value % 2 ^ to
    else (if signed && is_negative width value then value + (2 ^ to - 2 ^ width) else value)

-- so many low bits of a number
abbrev pub low_bits : ℕ → ℕ → List Bool
low_bits zero value = []
low_bits (suc width) value = (value % 2 == 1) ∷ low_bits width (value / 2)

-- the bits of a word
abbrev pub word_bits : WordValue → List Bool
word_bits w = low_bits w.width w.value

-- the bits of words, one word after another
abbrev pub words_bits : List WordValue → List Bool
words_bits [] = []
words_bits (w ∷ ws) = word_bits w ++ words_bits ws

-- the number that bits make
abbrev pub number_of : List Bool → ℕ
number_of [] = 0
number_of (bit ∷ bits) = (if bit then 1 else 0) + 2 * number_of bits

-- the word that bits make
abbrev pub word_of : List Bool → WordValue
word_of bits = record { width = length bits; value = number_of bits }
