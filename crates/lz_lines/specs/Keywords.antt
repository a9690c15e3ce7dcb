-- Several words, one of which stands at the front.
use Rattle.std.specs.Prelude.{◌≡◌, ℕ, List, [], ◌∷◌, Bool, true, false, ◌==◌, ◌&&◌, if◌then◌else◌}
use Rattle.lz_lines.specs.Forms.{Either}

-- the word of this key
abbrev pub IsKey : {A : Type 0} → (A → List ℕ) → A → A → List ℕ → Type 0
IsKey word key value text = (value ≡ key) × (text ≡ word key)

-- the word of one of these keys, or of the last one
abbrev pub OneOf : {A : Type 0} → (A → List ℕ) → A → List A → A → List ℕ → Type 0
OneOf word last [] = IsKey word last
OneOf word last (key ∷ keys) = Either (IsKey word key) (OneOf word last keys)

-- they differ in a letter that both have
abbrev pub is_apart : List ℕ → List ℕ → Bool
is_apart [] other = false
is_apart (b ∷ bs) [] = false
is_apart (b ∷ bs) (c ∷ cs) = if b == c then is_apart bs cs else true

abbrev pub is_apart_from : {A : Type 0} → (A → List ℕ) → List ℕ → A → List A → Bool
is_apart_from word text last [] = is_apart text (word last)
is_apart_from word text last (key ∷ keys) = is_apart text (word key) && is_apart_from word text last keys

-- no word of these keys, nor that of the last one, is the front of another
abbrev pub all_apart : {A : Type 0} → (A → List ℕ) → A → List A → Bool
all_apart word last [] = true
all_apart word last (key ∷ keys) = is_apart_from word (word key) last keys && all_apart word last keys
