-- Orders of assigns in which each stands behind those whose targets it reads.
use Rattle.std.specs.Prelude.{◌≡◌, ⊤, ℕ, ◌<◌, List, [], ◌∷◌, ◌++◌, length, Bool, true, false, Option, None, Some, slice_get}
use Rattle.lz_base.specs.Names.{is_among}
use Rattle.v_syntax.specs.declared.token.Ident.{Ident}
use Rattle.v_meaning.specs.ProcessRules.{ident_names}
use Rattle.v_uses.specs.Seen.{AssignSeen}
use Rattle.v_depends.specs.Graphs.{place, name_added}
use Rattle.v_depends.specs.Nodes.{is_in}

-- an assign reads the target of another one
abbrev pub reads_target : AssignSeen → AssignSeen → Bool
reads_target a b = is_among b.target.name (ident_names a.reads)

-- numbers of assigns behind others, each once and behind those of the assigns whose targets it reads
abbrev pub AreBehind : List AssignSeen → List ℕ → List ℕ → Type 0
AreBehind assigns before [] = ⊤
AreBehind assigns before (i ∷ order) =
    (is_in i before ≡ false)
    × ((a : AssignSeen) (j : ℕ) (b : AssignSeen) → slice_get assigns i ≡ Some a → slice_get assigns j ≡ Some b → reads_target a b ≡ true → is_in j before ≡ true)
    × AreBehind assigns (before ++ i ∷ []) order

-- all assigns in such an order
pub record IsOrder (assigns : List AssignSeen) (order : List ℕ) : Type 0 where
  pub within : (i : ℕ) → is_in i order ≡ true → i < length assigns
  pub every : (i : ℕ) → i < length assigns → is_in i order ≡ true
  pub behind : AreBehind assigns [] order

-- ---- the numbers of targets

-- the names of the targets behind other names, each once
abbrev pub names_from : List (List ℕ) → List AssignSeen → List (List ℕ)
names_from names [] = names
names_from names (a ∷ assigns) = names_from (name_added names a.target.name) assigns

abbrev pub if_some : Option ℕ → List ℕ
if_some None = []
if_some (Some n) = n ∷ []

-- the numbers of those that have one
abbrev pub numbers_of : List (List ℕ) → List Ident → List ℕ
numbers_of names [] = []
numbers_of names (n ∷ ns) = if_some (place names n.name) ++ numbers_of names ns

-- the numbers of the names that an assign reads
abbrev pub row_of : List (List ℕ) → AssignSeen → List ℕ
row_of names a = numbers_of names a.reads
