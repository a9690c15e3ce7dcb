-- What is read of digits: the number and the bytes after it, or how many bytes are left at the first wrong one.
use Rattle.std.specs.Prelude.{◌≡◌, ℕ, zero, suc, ◌+◌, ◌-◌, ◌*◌, ◌/◌, ◌%◌, ◌^◌, List, [], ◌∷◌, length, Bool, ◌&&◌, ◌||◌, nat_lt, nat_le, if◌then◌else◌, Result, Ok, Err}
use Rattle.lz_base.specs.Names.{is_between}
use Rattle.lz_lines.specs.Readers.{is_digit}
use Rattle.lz_lines.specs.declared.reading.Broken.{Broken}

-- A function's answer, seen so, is this.
abbrev pub Tells : {X A : Type 0} → (X → A) → Result X Broken → Result A ℕ → Type 0
Tells view (Ok x) read = read ≡ Ok (view x)
Tells view (Err e) read = read ≡ Err e.left

-- one more digit keeps the number within its bound, and no 0 stands before it
abbrev pub goes_on : ℕ → ℕ → ℕ → Bool
goes_on high n b = is_digit b && (nat_lt 0 n && nat_le (n * 10 + (b - 48)) high)

abbrev pub more_digits : ℕ → ℕ → List ℕ → ℕ × List ℕ
more_digits high n [] = (n, [])
more_digits high n (b ∷ bs) = if goes_on high n b then more_digits high (n * 10 + (b - 48)) bs else (n, b ∷ bs)

abbrev pub is_first : ℕ → ℕ → ℕ → Bool
is_first low high b = is_digit b && (nat_le low (b - 48) && nat_le (b - 48) high)

abbrev pub decimal_at : ℕ → ℕ → List ℕ → Result (ℕ × List ℕ) ℕ
decimal_at low high [] = Err 0
decimal_at low high (b ∷ bs) = if is_first low high b then Ok (more_digits high (b - 48) bs) else Err (length (b ∷ bs))

-- a hexadecimal digit in lower case, and its value
abbrev pub is_hex : ℕ → Bool
is_hex b = is_digit b || is_between 97 102 b

abbrev pub hex_value : ℕ → ℕ
hex_value b = if nat_lt b 58 then b - 48 else b - 87

abbrev pub more_hex : ℕ → ℕ → List ℕ → Result (ℕ × List ℕ) ℕ
more_hex zero n bytes = Ok (n, bytes)
more_hex (suc count) n [] = Err 0
more_hex (suc count) n (b ∷ bs) = if is_hex b then more_hex count (n * 16 + hex_value b) bs else Err (length (b ∷ bs))

-- the first digit, which has the bits that the others leave
abbrev pub is_top : ℕ → ℕ → Bool
is_top width b = is_hex b && nat_lt (hex_value b) (2 ^ ((width + 3) % 4 + 1))

abbrev pub hex_at : ℕ → List ℕ → Result (ℕ × List ℕ) ℕ
hex_at width [] = Err 0
hex_at width (b ∷ bs) = if is_top width b then more_hex ((width + 3) / 4 - 1) (hex_value b) bs else Err (length (b ∷ bs))
