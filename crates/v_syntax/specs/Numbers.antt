-- How numbers are spelled. After IEEE Std 1364-2005, clause 3.5.1.
use Rattle.std.specs.Prelude.{◌≡◌, ◌==◌, ◌||◌, ◌&&◌, if◌then◌else◌, ℕ, Bool, true, false, IsTrue, List, [], ◌∷◌, ◌++◌}
use Rattle.std.specs.List.{list_all}
use Rattle.lz_base.specs.Names.{is_between}

-- white space: space, tab, LF, form feed, CR (3.2). It may stand behind the letter of a base.
abbrev pub is_white : ℕ → Bool
is_white byte = byte == 32 || byte == 9 || byte == 10 || byte == 12 || byte == 13

-- x, z or ?, which stands for z (3.5.1)
abbrev pub is_unknown_digit : ℕ → Bool
is_unknown_digit byte = byte == 120 || byte == 88 || byte == 122 || byte == 90 || byte == 63

-- the letters of the bases 2, 8, 10 and 16
abbrev pub is_binary : ℕ → Bool
is_binary letter = letter == 98 || letter == 66

abbrev pub is_octal : ℕ → Bool
is_octal letter = letter == 111 || letter == 79

abbrev pub is_decimal : ℕ → Bool
is_decimal letter = letter == 100 || letter == 68

abbrev pub is_hexadecimal : ℕ → Bool
is_hexadecimal letter = letter == 104 || letter == 72

abbrev pub is_base : ℕ → Bool
is_base letter = is_binary letter || is_octal letter || is_decimal letter || is_hexadecimal letter

abbrev pub is_digit : ℕ → Bool
is_digit byte = is_between 48 57 byte

-- a digit of the base; of base 16 where it is none of the other letters
abbrev pub is_known_digit_of : ℕ → ℕ → Bool
is_known_digit_of base byte =
    if is_binary base then is_between 48 49 byte else (if is_octal base then is_between 48 55 byte else (if is_decimal base then is_digit byte
    else is_digit byte || is_between 97 102 byte || is_between 65 70 byte))

-- a digit of the base, or x, z or ?
abbrev pub is_digit_of : ℕ → ℕ → Bool
is_digit_of base byte = is_unknown_digit byte || is_known_digit_of base byte

-- What may stand behind the first digit: underscores, and more digits. In base 10 x, z and ? stand alone.
abbrev pub is_later_digit : ℕ → ℕ → ℕ → Bool
is_later_digit base first byte = byte == 95 || (if is_decimal base then is_digit first && is_digit byte else is_digit_of base byte)

abbrev pub are_digits : ℕ → List ℕ → Bool
are_digits base [] = false
are_digits base (first ∷ bytes) = is_digit_of base first && list_all (is_later_digit base first) bytes

-- a decimal digit or an underscore
abbrev pub is_decimal_byte : ℕ → Bool
is_decimal_byte byte = is_digit byte || byte == 95

-- a decimal number without a base
abbrev pub is_plain : List ℕ → Bool
is_plain [] = false
is_plain (first ∷ bytes) = is_digit first && list_all is_decimal_byte bytes

-- nothing, or the letter of a signed number
abbrev pub is_sign : List ℕ → Bool
is_sign [] = true
is_sign (letter ∷ []) = letter == 115 || letter == 83
is_sign (letter ∷ more ∷ bytes) = false

-- The base and digits of a number: an apostrophe, a sign or none, the base's letter, white space or none, digits.
pub record IsBased (bytes : List ℕ) : Type 0 where
  pub sign : List ℕ
  pub base : ℕ
  pub space : List ℕ
  pub digits : List ℕ
  pub spelled : bytes ≡ 39 ∷ sign ++ base ∷ space ++ digits
  pub has_sign : IsTrue (is_sign sign)
  pub has_base : IsTrue (is_base base)
  pub has_space : IsTrue (list_all is_white space)
  pub has_digits : IsTrue (are_digits base digits)
