-- The least of the places that break a rule, found one after another.
use Rattle.std.specs.Prelude.{ℕ, List, [], ◌∷◌, min, Option, None, Some}

abbrev pub lesser : Option ℕ → ℕ → Option ℕ
lesser None at = Some at
lesser (Some first) at = Some (min first at)

-- the least one of these and of one that was found before
abbrev pub least_from : Option ℕ → List ℕ → Option ℕ
least_from first [] = first
least_from first (at ∷ places) = least_from (lesser first at) places
