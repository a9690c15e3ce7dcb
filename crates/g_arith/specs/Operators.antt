-- What operators make of the numbers of words. A width is the number of bits of each operand; a number is below 2 ^ width.
use Rattle.std.specs.Prelude.{ℕ, ◌+◌, ◌-◌, ◌*◌, ◌/◌, ◌%◌, ◌^◌, Bool, ◌&&◌, if◌then◌else◌, nat_lt}
use Rattle.std.specs.Bool.{xor}
use Rattle.lz_base.specs.Bits.{is_negative}

abbrev pub bit : Bool → ℕ
bit b = if b then 1 else 0

-- the sum of two numbers and a carry, whose carry out is lost
abbrev pub added : ℕ → ℕ → ℕ → Bool → ℕ
added width m n carry = (m + n + bit carry) % 2 ^ width

abbrev pub subtracted : ℕ → ℕ → ℕ → ℕ
subtracted width m n = (m + (2 ^ width - n)) % 2 ^ width

-- less, as words of a width: of two signed words of which one is negative it is the less (1364, 5.1.7)
abbrev pub is_less : ℕ → Bool → ℕ → ℕ → Bool
is_less width signed m n = if signed && xor (is_negative width m) (is_negative width n) then is_negative width m else nat_lt m n

-- A word moved by so many places (1364, 5.1.12): to the left, so many copies of the bit come in below bit 0, and what
-- passes the width is lost; to the right, they come in above the top bit, and so many low bits are lost.
abbrev pub shifted : Bool → ℕ → Bool → ℕ → ℕ → ℕ
shifted left width fill m places =
    if left then (m * 2 ^ places + bit fill * (2 ^ places - 1)) % 2 ^ width
    else (m + bit fill * (2 ^ places - 1) * 2 ^ width) / 2 ^ places
