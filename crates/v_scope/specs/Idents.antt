-- The names of marks, and what each adds to the places of a rule and to the names that those behind it are judged by.
use Rattle.std.specs.Prelude.{ℕ, List, [], ◌∷◌, Bool, not, ◌&&◌, ◌||◌, Option, None, Some}
use Rattle.lz_base.specs.Names.{is_among}
use Rattle.v_syntax.specs.declared.token.Ident.{Ident}
use Rattle.v_meaning.specs.Marks.{Mark, Declares, Valued, Used}
use Rattle.v_meaning.specs.MarkRules.{place_if}

abbrev pub ident_declared : Mark → Option Ident
ident_declared (Declares n) = Some n
ident_declared _ = None

abbrev pub ident_valued : Mark → Option Ident
ident_valued (Valued n) = Some n
ident_valued _ = None

abbrev pub ident_used : Mark → Option Ident
ident_used (Used form n) = Some n
ident_used _ = None

-- the name, if there is one
abbrev pub name_in : Option Ident → List (List ℕ)
name_in None = []
name_in (Some n) = n.name ∷ []

-- names, and this one before them
abbrev pub behind : List (List ℕ) → Option Ident → List (List ℕ)
behind names None = names
behind names (Some n) = n.name ∷ names

-- where a name is declared behind others
abbrev pub twice_at : List (List ℕ) → Option Ident → List ℕ
twice_at before None = []
twice_at before (Some n) = place_if (is_among n.name before) n.at

-- where a name is used: all names, the parameters, and those whose values have ended
abbrev pub is_early : List (List ℕ) → List (List ℕ) → List (List ℕ) → List ℕ → Bool
is_early known parameters ended name = not (is_among name known) || (is_among name parameters && not (is_among name ended))

abbrev pub early_at : List (List ℕ) → List (List ℕ) → List (List ℕ) → Option Ident → List ℕ
early_at known parameters ended None = []
early_at known parameters ended (Some n) = place_if (is_early known parameters ended n.name) n.at
