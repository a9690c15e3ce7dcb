-- How wide declared names are.
use Rattle.std.specs.Prelude.{ℕ, ◌≤◌, ◌<◌, ◌^◌, List, [], ◌∷◌, ⊤}
use Rattle.v_meaning.specs.declared.names.Kind.{Kind}
use Rattle.v_meaning.specs.declared.names.Kind.TheVariants.{Parameter, Clock, Input, Net, Combinational, Variable, Memory}
use Rattle.v_meaning.specs.declared.names.Entry.{Entry}

-- the value of a parameter keeps to its width
abbrev pub FitsKind : ℕ → Kind → Type 0
FitsKind width (Parameter value) = value < 2 ^ width
FitsKind width Clock = ⊤
FitsKind width (Input k) = ⊤
FitsKind width (Net k) = ⊤
FitsKind width (Combinational k) = ⊤
FitsKind width (Variable k) = ⊤
FitsKind width (Memory k low count) = ⊤

-- a word of 1 to 128 bits
pub record IsWord (e : Entry) : Type 0 where
  pub has_bit : 1 ≤ e.width
  pub within : e.width ≤ 128
  pub fits : FitsKind e.width e.kind

abbrev pub AreWords : List Entry → Type 0
AreWords [] = ⊤
AreWords (e ∷ es) = IsWord e × AreWords es
