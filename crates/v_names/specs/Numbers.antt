-- What the maps of names and of sites hold.
use Rattle.std.specs.Prelude.{◌≡◌, ℕ, suc, ◌<◌, ◌^◌, ◌==◌, List, [], ◌∷◌, length, Bool, if◌then◌else◌, Option, None, Some, bytes_eq}
use Rattle.std.specs.Ordering.{nat_cmp}
use Rattle.std.specs.Cmp.Lexicographic.{slice_cmp}
use Rattle.std.specs.BTreeMap.{BTreeMap, get}
use Rattle.v_meaning.specs.declared.names.Entry.{Entry}

abbrev pub later : Option ℕ → Option ℕ
later None = None
later (Some n) = Some (suc n)

-- the number of the first element that passes
abbrev pub first_where : {A : Type 0} → (A → Bool) → List A → Option ℕ
first_where test [] = None
first_where test (x ∷ xs) = if test x then Some 0 else later (first_where test xs)

-- a map from each name to the number of its first entry
pub record AreNumbers (numbers : BTreeMap (List ℕ) ℕ) (names : List Entry) : Type 0 where
  pub found : (name : List ℕ) → get (slice_cmp nat_cmp) numbers name ≡ first_where (λ (e : Entry). bytes_eq e.name name) names
  pub few : length names < 2 ^ 32

-- a map from each place to the number of the first site there
pub record ArePlaces (numbers : BTreeMap ℕ ℕ) (places : List ℕ) : Type 0 where
  pub found : (place : ℕ) → get nat_cmp numbers place ≡ first_where (λ (other : ℕ). other == place) places
  pub few : length places < 2 ^ 32
