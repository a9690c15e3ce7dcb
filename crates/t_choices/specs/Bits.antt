-- The spelling of a choice of bits.
use Rattle.std.specs.Prelude.{◌≡◌, ℕ, List, [], ◌∷◌, length, Bool, true, false, codes, flat_map, ⊤}
use Rattle.lz_lines.specs.Fields.{field}

abbrev pub digit : Bool → List ℕ
digit false = codes "0"
digit true = codes "1"

-- each bit is one
abbrev pub AnyBit : Bool → Type 0
AnyBit bit = ⊤

-- The digits of the bits in one field; with no bits there is no field.
abbrev pub choice_field : List Bool → List ℕ
choice_field [] = []
choice_field (b ∷ bs) = field (flat_map digit (b ∷ bs))

abbrev pub HasBits : ℕ → List Bool → Type 0
HasBits count bits = length bits ≡ count
