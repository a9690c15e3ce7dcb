-- The files that a run reads.
use Rattle.std.specs.Prelude.{◌≡◌, ◌⊎◌, ℕ, ◌<◌, ◌≤◌, List, [], ◌∷◌, length, Option, None, Some, Vec, vec_len, ⊤}
use Rattle.std.specs.declared.alloc.Global.{Global}
use Rattle.lz_base.specs.Outside.{Told}

-- these bytes stand under the names, in their order; where nothing is told, none do
abbrev pub AreUnder : Told → List (List ℕ) → List (List ℕ) → Type 0
AreUnder None names contents = ⊥
AreUnder (Some content) [] [] = ⊤
AreUnder (Some content) [] (bytes ∷ contents) = ⊥
AreUnder (Some content) (name ∷ names) [] = ⊥
AreUnder (Some content) (name ∷ names) (bytes ∷ contents) = (content name ≡ Some bytes) × AreUnder (Some content) names contents

-- some name has no bytes
abbrev pub AnyMissing : (List ℕ → Option (List ℕ)) → List (List ℕ) → Type 0
AnyMissing content [] = ⊥
AnyMissing content (name ∷ names) = (content name ≡ None) ⊎ AnyMissing content names

-- bytes are told, and some name has none
abbrev pub IsMissing : Told → List (List ℕ) → Type 0
IsMissing None names = ⊥
IsMissing (Some content) names = AnyMissing content names

-- What was read of a file is all of these bytes, at most so many; or they are more.
abbrev pub IsWhole : ℕ → Option (Vec ℕ Global) → List ℕ → Type 0
IsWhole limit None bytes = limit < length bytes
IsWhole limit (Some v) bytes = (v.items ≡ bytes) × (length bytes ≤ limit)

-- the same of several files
abbrev pub AreWhole : List ℕ → List (Option (Vec ℕ Global)) → List (List ℕ) → Type 0
AreWhole [] [] [] = ⊤
AreWhole [] [] (bytes ∷ contents) = ⊥
AreWhole [] (text ∷ texts) contents = ⊥
AreWhole (limit ∷ limits) [] contents = ⊥
AreWhole (limit ∷ limits) (text ∷ texts) [] = ⊥
AreWhole (limit ∷ limits) (text ∷ texts) (bytes ∷ contents) = IsWhole limit text bytes × AreWhole limits texts contents

-- where bytes are told, they were read whole
abbrev pub WereRead : Told → List (List ℕ) → List ℕ → List (Option (Vec ℕ Global)) → Type 0
WereRead told names limits texts = (contents : List (List ℕ)) → AreUnder told names contents → AreWhole limits texts contents

-- where bytes are told, there are some under this name, of which this holds
abbrev pub StandsSo : Told → List ℕ → (List ℕ → Type 0) → Type 0
StandsSo None name P = ⊤
StandsSo (Some content) name P = (bytes : List ℕ) × (content name ≡ Some bytes) × P bytes

-- what was read is no longer than it may be
abbrev pub IsShort : ℕ → Option (Vec ℕ Global) → Type 0
IsShort limit None = ⊤
IsShort limit (Some v) = vec_len v ≤ limit

abbrev pub AreShort : List ℕ → List (Option (Vec ℕ Global)) → Type 0
AreShort [] texts = ⊤
AreShort (limit ∷ limits) [] = ⊤
AreShort (limit ∷ limits) (text ∷ texts) = IsShort limit text × AreShort limits texts
