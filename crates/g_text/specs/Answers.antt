-- What the reader of networks answers.
use Rattle.std.specs.Prelude.{◌≡◌, ◌⊎◌, ℕ, List, ◌∷◌}
use Rattle.lz_base.specs.declared.rule.Rule.TheVariants.{G1, G2}
use Rattle.lz_base.specs.declared.fault.Fault.{Fault}
use Rattle.lz_lines.specs.Places.{IsUnreadable}
use Rattle.g_net.specs.Network.{NetworkValue}
use Rattle.g_text.specs.Form.{HasForm}
use Rattle.g_text.specs.Referred.{wrong_places}
use Rattle.g_text.specs.Text.{text}

-- the text of a network, whatever its references
abbrev pub IsText : NetworkValue → List ℕ → Type 0
IsText n bytes = HasForm n × (bytes ≡ text n)

-- These bytes are the text of this network, whatever its references, and of no other.
pub record IsTextOf (bytes : List ℕ) (n : NetworkValue) : Type 0 where
  pub form : HasForm n
  pub spelled : bytes ≡ text n
  pub alone : (m : NetworkValue) → HasForm m → bytes ≡ text m → m ≡ n

-- One network has this text, and the place is that of its first wrong reference.
pub record IsWrongAt (bytes : List ℕ) (f : Fault) : Type 0 where
  pub rule : f.rule ≡ G2
  pub network : NetworkValue
  pub is : IsTextOf bytes network
  pub more : List ℕ
  pub first : wrong_places network ≡ f.at ∷ more

-- the bytes leave the texts of all networks at the place, or they are such a text, and the place is of a wrong reference
abbrev pub IsRefusal : List ℕ → Fault → Type 0
IsRefusal bytes f = IsUnreadable IsText G1 bytes f ⊎ IsWrongAt bytes f
