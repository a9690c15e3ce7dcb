-- What a name is, when names are distinct, and when a name is one of several.
use Rattle.std.specs.Prelude.{◌≡◌, ◌≢◌, ◌⊎◌, ⊤, ℕ, List, [], ◌∷◌, Bool, false, ◌&&◌, ◌||◌, ◌==◌, nat_le, bytes_eq, IsTrue}
use Rattle.std.specs.List.{list_all}

-- the byte lies in this range, both ends included
abbrev pub is_between : ℕ → ℕ → ℕ → Bool
is_between low high byte = nat_le low byte && nat_le byte high

-- a letter or an underscore
abbrev pub is_name_start : ℕ → Bool
is_name_start byte = is_between 97 122 byte || is_between 65 90 byte || byte == 95

-- a letter, a digit, an underscore or a dollar sign
abbrev pub is_name_byte : ℕ → Bool
is_name_byte byte = is_name_start byte || is_between 48 57 byte || byte == 36

-- an identifier (1364, 3.7), which is not an escaped one
abbrev pub is_name : List ℕ → Bool
is_name [] = false
is_name (byte ∷ bytes) = is_name_start byte && list_all is_name_byte bytes

-- these bytes are a name
abbrev pub IsName : List ℕ → Type 0
IsName bytes = IsTrue (is_name bytes)

-- the name is none of these
abbrev pub IsNew : List ℕ → List (List ℕ) → Type 0
IsNew name [] = ⊤
IsNew name (other ∷ names) = (name ≢ other) × IsNew name names

-- no two of these names are equal
abbrev pub AreDistinct : List (List ℕ) → Type 0
AreDistinct [] = ⊤
AreDistinct (name ∷ names) = IsNew name names × AreDistinct names

-- the name is one of these
abbrev pub IsAmong : List ℕ → List (List ℕ) → Type 0
IsAmong name [] = ⊥
IsAmong name (other ∷ names) = (name ≡ other) ⊎ IsAmong name names

-- each of the names is one of those
abbrev pub AreAmong : List (List ℕ) → List (List ℕ) → Type 0
AreAmong [] names = ⊤
AreAmong (name ∷ more) names = IsAmong name names × AreAmong more names

-- whether the name is one of these
abbrev pub is_among : List ℕ → List (List ℕ) → Bool
is_among name [] = false
is_among name (other ∷ names) = bytes_eq other name || is_among name names
