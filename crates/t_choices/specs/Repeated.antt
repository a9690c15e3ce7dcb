-- Forms of which a text has an exact number, and its last line.
use Rattle.std.specs.Prelude.{◌≡◌, ℕ, List, [], ◌∷◌, ◌++◌, length, flat_map, codes}
use Rattle.lz_lines.specs.Fields.{Each}

-- a value with this property has the one spelling
abbrev pub Spelled : {V : Type 0} → (V → List ℕ) → (V → Type 0) → V → List ℕ → Type 0
Spelled spelling Has value text = Has value × (text ≡ spelling value)

-- so many values, one behind the other
abbrev pub Exactly : {V : Type 0} → (V → List ℕ) → (V → Type 0) → ℕ → List V → List ℕ → Type 0
Exactly spelling Has count values text = Each Has values × (length values ≡ count) × (text ≡ flat_map spelling values)

abbrev pub last_line : List ℕ
last_line = codes "end" ++ 10 ∷ []

-- the last line, where the value is known
abbrev pub Last : {V : Type 0} → V → V → List ℕ → Type 0
Last known value text = (value ≡ known) × (text ≡ last_line)
