-- What a number of the source stands for: its width and sign, and which of its bits are 1, x and z (1364-2005, 3.5.1).
use Rattle.std.specs.Prelude.{ℕ, zero, suc, ◌+◌, ◌-◌, ◌*◌, ◌/◌, ◌%◌, ◌^◌, ◌==◌, List, [], ◌∷◌, length, filter, Bool, true, false, not, ◌&&◌, ◌||◌, if◌then◌else◌, nat_le, nat_lt}
use Rattle.std.specs.List.{list_any}
use Rattle.v_syntax.specs.Numbers.{is_white, is_binary, is_octal, is_decimal, is_digit, is_unknown_digit}
use Rattle.v_syntax.specs.declared.expr.Spelling.{Spelling}
use Rattle.v_syntax.specs.declared.expr.Spelling.TheVariants as s
use Rattle.v_meaning.specs.declared.literal.Literal.{Literal}

-- x
abbrev pub is_x : ℕ → Bool
is_x byte = byte == 120 || byte == 88

-- z, or ? in its place
abbrev pub is_z : ℕ → Bool
is_z byte = byte == 122 || byte == 90 || byte == 63

-- the value of a digit, which is 0 for x and z
abbrev pub digit_value : ℕ → ℕ
digit_value byte = if is_unknown_digit byte then 0 else (if is_digit byte then byte - 48 else (if nat_le 97 byte then byte - 87 else byte - 55))

-- An underscore means nothing, and white space may stand before the first digit.
abbrev pub digits_in : List ℕ → List ℕ
digits_in bytes = filter (λ byte. not (is_white byte) && not (byte == 95)) bytes

-- the number that digits make, the most significant first, behind a number that stands before them
abbrev pub number_behind : ℕ → ℕ → (ℕ → ℕ) → List ℕ → ℕ
number_behind before radix value [] = before
number_behind before radix value (d ∷ ds) = number_behind (before * radix + value d) radix value ds

abbrev pub number_in : ℕ → (ℕ → ℕ) → List ℕ → ℕ
number_in = number_behind 0

-- a decimal number by itself, or the size of another one
abbrev pub decimal_value : List ℕ → ℕ
decimal_value bytes = number_in 10 digit_value (digits_in bytes)

-- how many bits a digit has; a decimal digit has none of its own
abbrev pub digit_bits : ℕ → ℕ
digit_bits letter = if is_binary letter then 1 else (if is_octal letter then 3 else (if is_decimal letter then 0 else 4))

abbrev pub radix_of : ℕ → ℕ
radix_of letter = if is_decimal letter then 10 else 2 ^ digit_bits letter

abbrev pub begins : (ℕ → Bool) → List ℕ → Bool
begins test [] = false
begins test (d ∷ ds) = test d

-- Ones at the bits of the digits that pass: digits that are too few are padded on the left with the leftmost one where it
-- passes, and digits that are too many are cut on the left. In base 10 the one x or z fills the word.
abbrev pub mask_of : (ℕ → Bool) → ℕ → ℕ → List ℕ → ℕ
mask_of test bits width digits =
    (number_in (2 ^ bits) (λ d. if test d then 2 ^ bits - 1 else 0) digits + (if begins test digits then 2 ^ width - 2 ^ (bits * length digits) else 0))
    % 2 ^ width

-- a width, a sign, the letter of a base, and digits
abbrev pub literal : ℕ → Bool → ℕ → List ℕ → Literal
literal width signed letter digits = record {
  width = width;
  signed = signed;
  ones = number_in (radix_of letter) digit_value digits % 2 ^ width;
  unknown = mask_of is_x (digit_bits letter) width digits;
  impedance = mask_of is_z (digit_bits letter) width digits;
}

-- behind the apostrophe: an s for a signed number or none, the letter of the base, and the digits
abbrev pub behind_sign : ℕ → Bool → List ℕ → Literal
behind_sign width signed [] = literal width signed 0 []
behind_sign width signed (letter ∷ more) = literal width signed letter (digits_in more)

abbrev pub behind_mark : ℕ → List ℕ → Literal
behind_mark width [] = behind_sign width false []
behind_mark width (letter ∷ more) = if letter == 115 || letter == 83 then behind_sign width true more else behind_sign width false (letter ∷ more)

abbrev pub based_literal : ℕ → List ℕ → Literal
based_literal width [] = behind_mark width []
based_literal width (mark ∷ more) = behind_mark width more

-- A decimal number by itself is signed. Without a size the width is 32.
abbrev pub literal_of : Spelling → Literal
literal_of (s.Decimal digits) = literal 32 true 100 (digits_in digits)
literal_of (s.Based bytes) = based_literal 32 bytes
literal_of (s.Sized size bytes) = based_literal (decimal_value size) bytes

-- how many of so many low bits are 1
abbrev pub ones_in : ℕ → ℕ → ℕ
ones_in zero mask = 0
ones_in (suc width) mask = mask % 2 + ones_in width (mask / 2)

-- the bits of a number, from the least up, at those of so many low bits that are 1 in the mask
abbrev pub spread : ℕ → ℕ → ℕ → ℕ
spread zero mask bits = 0
spread (suc width) mask bits =
    if mask % 2 == 0 then 2 * spread width (mask / 2) bits else bits % 2 + 2 * spread width (mask / 2) (bits / 2)

-- how many bits of a number are open: those that are x
abbrev pub open_bits : Literal → ℕ
open_bits l = ones_in l.width l.unknown

-- its value, where its x bits are these
abbrev pub literal_value : Literal → ℕ → ℕ
literal_value l bits = l.ones + spread l.width l.unknown bits

-- a digit that passes, as the number is written, those that are cut too
abbrev pub has_digit : (ℕ → Bool) → List ℕ → Bool
has_digit test bytes = list_any test bytes

abbrev pub digit_in : (ℕ → Bool) → Spelling → Bool
digit_in test (s.Decimal digits) = false
digit_in test (s.Based bytes) = has_digit test bytes
digit_in test (s.Sized size bytes) = has_digit test bytes

abbrev pub is_unsized : Spelling → Bool
is_unsized (s.Decimal digits) = true
is_unsized (s.Based bytes) = true
is_unsized (s.Sized size bytes) = false

-- a size of 0 or over 128; a decimal number of 2^31 or more; a number without a size that has x or z
abbrev pub is_wrong_number : Spelling → Bool
is_wrong_number (s.Decimal digits) = nat_le (2 ^ 31) (decimal_value digits)
is_wrong_number (s.Based bytes) = digit_in is_x (s.Based bytes) || digit_in is_z (s.Based bytes)
is_wrong_number (s.Sized size bytes) = decimal_value size == 0 || nat_lt 128 (decimal_value size)
