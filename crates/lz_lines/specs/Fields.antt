-- How the fields of a line are spelled. A field stands behind one blank, and a line ends with LF.
use Rattle.std.specs.Prelude.{◌≡◌, ℕ, ◌+◌, ◌/◌, ◌%◌, ◌^◌, ◌-◌, ◌<◌, ◌≤◌, zero, suc, List, [], ◌∷◌, ◌++◌, nat_lt, if◌then◌else◌, Bool, true, false, codes, flat_map, length, ⊤}
use Rattle.std.specs.Fmt.{decimal}
use Rattle.lz_base.specs.Names.{IsName}

-- a field, behind its blank
abbrev pub field : List ℕ → List ℕ
field bytes = 32 ∷ bytes

-- a decimal number without leading zeros, behind its blank
abbrev pub number : ℕ → List ℕ
number n = 32 ∷ decimal n

-- a hexadecimal digit, in lower case
abbrev pub hex_digit : ℕ → ℕ
hex_digit d = if nat_lt d 10 then 48 + d else 87 + d

-- so many hexadecimal digits of a number, the most significant first
abbrev pub hex_digits : ℕ → ℕ → List ℕ
hex_digits zero n = []
hex_digits (suc count) n = hex_digits count (n / 16) ++ hex_digit (n % 16) ∷ []

-- a number of so many bits in hexadecimal
abbrev pub hex : ℕ → ℕ → List ℕ
hex width n = hex_digits ((width + 3) / 4) n

-- a bit, behind its blank
abbrev pub bit : Bool → List ℕ
bit false = codes " 0"
bit true = codes " 1"

-- the end of a line
abbrev pub line_end : List ℕ
line_end = 10 ∷ []

-- The forms of fields: which values they have, and how each is spelled.

-- a fixed word
abbrev pub IsWord : List ℕ → ⊤ → List ℕ → Type 0
IsWord word value text = text ≡ word

-- a number between two bounds
abbrev pub IsNumber : ℕ → ℕ → ℕ → List ℕ → Type 0
IsNumber low high n text = (low ≤ n) × (n ≤ high) × (text ≡ number n)

-- a number of so many bits, in hexadecimal
abbrev pub IsHex : ℕ → ℕ → List ℕ → Type 0
IsHex width n text = (n < 2 ^ width) × (text ≡ field (hex width n))

abbrev pub IsBit : Bool → List ℕ → Type 0
IsBit b text = text ≡ bit b

abbrev pub IsNameField : List ℕ → List ℕ → Type 0
IsNameField name text = IsName name × (text ≡ field name)

-- the greatest number in a text
abbrev pub greatest : ℕ
greatest = 2 ^ 128 - 1

-- each of these has the property
abbrev pub Each : {X : Type 0} → (X → Type 0) → List X → Type 0
Each Has [] = ⊤
Each Has (x ∷ xs) = Has x × Each Has xs

-- each number is this one or less
abbrev pub AllUpTo : ℕ → List ℕ → Type 0
AllUpTo most [] = ⊤
AllUpTo most (n ∷ ns) = (n ≤ most) × AllUpTo most ns

-- between `low` and `high` numbers of which each is at most `most`
abbrev pub AreNumbers : ℕ → ℕ → ℕ → List ℕ → List ℕ → Type 0
AreNumbers low high most ns text = (low ≤ length ns) × (length ns ≤ high) × AllUpTo most ns × (text ≡ flat_map number ns)
