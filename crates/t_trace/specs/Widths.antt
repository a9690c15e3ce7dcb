-- When words and cycles fit the widths of ports.
use Rattle.std.specs.Prelude.{◌≡◌, ℕ, ◌<◌, ◌≤◌, ◌^◌, List, [], ◌∷◌, ⊤}
use Rattle.lz_base.specs.WordValue.{WordValue}

-- widths of words
abbrev pub AreWidths : List ℕ → Type 0
AreWidths [] = ⊤
AreWidths (width ∷ widths) = (1 ≤ width) × (width ≤ 128) × AreWidths widths

-- one word for each width
abbrev pub FitWidths : List ℕ → List WordValue → Type 0
FitWidths [] [] = ⊤
FitWidths [] (w ∷ ws) = ⊥
FitWidths (width ∷ widths) [] = ⊥
FitWidths (width ∷ widths) (w ∷ ws) = (w.width ≡ width) × (w.value < 2 ^ width) × FitWidths widths ws

-- each cycle has one word for each width
abbrev pub CyclesFit : List ℕ → List (List WordValue) → Type 0
CyclesFit widths [] = ⊤
CyclesFit widths (words ∷ cycles) = FitWidths widths words × CyclesFit widths cycles
