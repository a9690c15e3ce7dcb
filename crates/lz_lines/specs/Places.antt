-- How far some text of a kind begins as bytes do.
use Rattle.std.specs.Prelude.{◌≡◌, ℕ, List, [], ◌∷◌, ◌++◌, length, ⊤}
use Rattle.lz_base.specs.declared.rule.Rule.{Rule}
use Rattle.lz_base.specs.declared.fault.Fault.{Fault}

-- some text begins so
abbrev pub Begins : (List ℕ → Type 0) → List ℕ → Type 0
Begins IsText front = (more : List ℕ) × IsText (front ++ more)

-- no text goes on with the next byte, where there is one
abbrev pub NoneGoesOn : (List ℕ → Type 0) → List ℕ → List ℕ → Type 0
NoneGoesOn IsText front [] = ⊤
NoneGoesOn IsText front (b ∷ bs) = (more : List ℕ) → IsText (front ++ b ∷ more) → ⊥

-- The place is the length of the longest front of the bytes with which some text begins.
pub record IsPlace (IsText : List ℕ → Type 0) (bytes : List ℕ) (place : ℕ) : Type 0 where
  pub front : List ℕ
  pub back : List ℕ
  pub split : bytes ≡ front ++ back
  pub size : place ≡ length front
  pub begins : Begins IsText front
  pub stuck : NoneGoesOn IsText front back

-- some value has this text
abbrev pub HasText : {V : Type 0} → (V → List ℕ → Type 0) → List ℕ → Type 0
HasText Is text = (value : _) × Is value text

-- The bytes are no text of the form, and the fault stands where they leave its texts.
pub record IsUnreadable {V : Type 0} (Is : V → List ℕ → Type 0) (rule : Rule) (bytes : List ℕ) (fault : Fault) : Type 0 where
  pub broken : fault.rule ≡ rule
  pub place : IsPlace (HasText Is) bytes fault.at
  pub none : (value : V) → Is value bytes → ⊥
