-- What the readers of netlists answer.
use Rattle.std.specs.Prelude.{◌≡◌, ◌⊎◌, ℕ, List, ◌∷◌}
use Rattle.lz_base.specs.declared.rule.Rule.TheVariants.{N1, N2}
use Rattle.lz_base.specs.declared.fault.Fault.{Fault}
use Rattle.lz_lines.specs.Places.{IsUnreadable}
use Rattle.n_cells.specs.declared.format.Format.{Format}
use Rattle.n_cells.specs.Form.{HasForm}
use Rattle.n_cells.specs.Netlist.{NetlistValue}
use Rattle.n_cells.specs.Text.{text}
use Rattle.n_text.specs.Referred.{wrong_places}

-- the text of a netlist, whatever its references
abbrev pub IsText : Format → NetlistValue → List ℕ → Type 0
IsText format n bytes = HasForm format n × (bytes ≡ text format n)

-- These bytes are the text of this netlist, whatever its references, and of no other.
pub record IsTextOf (format : Format) (bytes : List ℕ) (n : NetlistValue) : Type 0 where
  pub form : HasForm format n
  pub spelled : bytes ≡ text format n
  pub alone : (m : NetlistValue) → HasForm format m → bytes ≡ text format m → m ≡ n

-- One netlist has this text, and the place is that of its first wrong reference.
pub record IsWrongAt (format : Format) (bytes : List ℕ) (f : Fault) : Type 0 where
  pub rule : f.rule ≡ N2
  pub netlist : NetlistValue
  pub is : IsTextOf format bytes netlist
  pub more : List ℕ
  pub first : wrong_places format netlist ≡ f.at ∷ more

-- the bytes leave the texts of all netlists at the place, or they are such a text, and the place is of a wrong reference
abbrev pub IsRefusal : Format → List ℕ → Fault → Type 0
IsRefusal format bytes f = IsUnreadable (IsText format) N1 bytes f ⊎ IsWrongAt format bytes f
