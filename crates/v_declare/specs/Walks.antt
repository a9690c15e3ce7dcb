-- What a walk over the places that break E7 answers: it ends at the first one.
use Rattle.std.specs.Prelude.{◌≡◌, ⊤, ℕ, List, [], ◌∷◌, ◌++◌, take, Result, Ok, Err}
use Rattle.v_meaning.specs.declared.names.Entry.{Entry}
use Rattle.lz_base.specs.declared.rule.Rule.TheVariants as r
use Rattle.lz_base.specs.declared.fault.Stop.{Stop}
use Rattle.lz_base.specs.declared.fault.Stop.TheVariants as stop

-- the first place, if there is one
abbrev pub first_of : List ℕ → List ℕ
first_of places = take 1 places

-- E7 at the first place, or want of memory
abbrev pub StopsAt : List ℕ → Stop → Type 0
StopsAt places (stop.Fault fault) = (fault.rule ≡ r.E7) × (first_of places ≡ fault.at ∷ [])
StopsAt places stop.OutOfMemory = ⊤

-- Ok where there is no such place
abbrev pub Judges : {T : Type 0} → List ℕ → Result T Stop → Type 0
Judges places (Ok x) = first_of places ≡ []
Judges places (Err e) = StopsAt places e

-- the places in things that stand one behind another, each over the names before it
abbrev pub along : {A : Type 0} → (List Entry → A → List ℕ) → (List Entry → A → List Entry) → List Entry → List A → List ℕ
along places behind names [] = []
along places behind names (x ∷ xs) = places names x ++ along places behind (behind names x) xs
