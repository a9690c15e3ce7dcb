-- Files in memory, as contracts see them.
use Rattle.std.specs.Prelude.{ℕ, zero, suc, ◌<◌, ◌≤◌, ◌==◌, List, [], ◌∷◌, length, drop, Option, None, Some, String, Vec, string_bytes, Bool, ⊤, if◌then◌else◌}
use Rattle.std.specs.List.{list_any}
use Rattle.std.specs.declared.alloc.Global.{Global}
use lib.Pointwise.{pointwise}

-- the files, each a name and its bytes; what is left of the open one; the calls that are to fail; the number of
-- the next call; and how many calls have failed
pub record FilesValue : Type 0 where
  pub files : List (List ℕ × List ℕ)
  pub rest : Option (List ℕ)
  pub fail : List ℕ
  pub next : ℕ
  pub faults : ℕ

-- the names of files
abbrev pub names_of : List (List ℕ × List ℕ) → List (List ℕ)
names_of [] = []
names_of (file ∷ files) = file.0 ∷ names_of files

-- the bytes under a name: those of the first file of this name
abbrev pub content_of : List (List ℕ × List ℕ) → List ℕ → Option (List ℕ)
content_of [] name = None
content_of (file ∷ files) name = if pointwise ◌==◌ file.0 name then Some file.1 else content_of files name

-- the call of this number is one of those that are to fail
abbrev pub is_listed : ℕ → List ℕ → Bool
is_listed call fail = list_any (λ n. n == call) fail

-- strings and vectors as files
abbrev pub files_of : List (String Global × Vec ℕ Global) → List (List ℕ × List ℕ)
files_of [] = []
files_of (file ∷ files) = (string_bytes file.0, file.1.items) ∷ files_of files

-- the bytes of the file at this index, past the last one none
abbrev pub bytes_at : List (List ℕ × List ℕ) → ℕ → List ℕ
bytes_at [] index = []
bytes_at (file ∷ files) zero = file.1
bytes_at (file ∷ files) (suc index) = bytes_at files index

-- what is left of the open file, given as its index and the next byte
abbrev pub rest_of : List (List ℕ × List ℕ) → Option (ℕ × ℕ) → Option (List ℕ)
rest_of files None = None
rest_of files (Some place) = Some (drop place.1 (bytes_at files place.0))

-- the open file is there, and the next byte is in it or at its end
abbrev pub IsPlace : List (List ℕ × List ℕ) → Option (ℕ × ℕ) → Type 0
IsPlace files None = ⊤
IsPlace files (Some place) = (place.0 < length files) × (place.1 ≤ length (bytes_at files place.0))
