-- What stands at the front of bytes.
use Rattle.std.specs.Prelude.{◌≡◌, ℕ, List, [], ◌∷◌, Bool, false, ◌==◌, ◌&&◌, ◌||◌, nat_lt, ⊤}
use Rattle.lz_base.specs.Names.{is_between, is_name_start}

-- the bytes begin with none of these
abbrev pub BeginsWithout : (ℕ → Bool) → List ℕ → Type 0
BeginsWithout p [] = ⊤
BeginsWithout p (b ∷ bs) = p b ≡ false

-- a decimal digit
abbrev pub is_digit : ℕ → Bool
is_digit b = is_between 48 57 b

-- the first byte of a name stands at the front
abbrev pub begins_name : List ℕ → Bool
begins_name [] = false
begins_name (b ∷ bs) = is_name_start b

-- a blank stands at the front
abbrev pub begins_field : List ℕ → Bool
begins_field [] = false
begins_field (b ∷ bs) = b == 32

-- one more number has to come behind so many, or comes and may
abbrev pub wants_number : ℕ → ℕ → ℕ → List ℕ → Bool
wants_number count low high bytes = nat_lt count low || (nat_lt count high && begins_field bytes)
