-- What files and sinks tell of their bytes.
use Rattle.std.specs.Prelude.{◌≡◌, ℕ, List, Option, None, Some, IsSome, ⊤}

-- the bytes under each name, where they are told
abbrev pub Told : Type 0
Told = Option (List ℕ → Option (List ℕ))

-- the named file is there and open, from its start, where bytes are told
abbrev pub Opened : Told → List ℕ → Option (List ℕ) → Type 0
Opened None name rest = ⊤
Opened (Some content) name rest = IsSome (content name) × (rest ≡ content name)

-- where bytes are told, these stand under the name
abbrev pub Stands : Told → List ℕ → List ℕ → Type 0
Stands None name bytes = ⊤
Stands (Some content) name bytes = content name ≡ Some bytes
