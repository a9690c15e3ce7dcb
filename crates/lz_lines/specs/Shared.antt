-- The lines that the texts of netlists and of networks share.
use Rattle.std.specs.Prelude.{ℕ, List, [], ◌∷◌, ◌++◌, codes, flat_map, Option, None, Some}
use Rattle.lz_base.specs.declared.name.Port.{Port}
use Rattle.lz_lines.specs.Fields.{field, number}

-- clock NAME, where there is a clock
abbrev pub clock_line : Option (List ℕ) → List ℕ
clock_line None = []
clock_line (Some name) = codes "clock" ++ field name ++ 10 ∷ []

-- input NAME WIDTH
abbrev pub input_line : Port → List ℕ
input_line p = codes "input" ++ field p.name ++ number p.width ++ 10 ∷ []

-- output NAME N ..
abbrev pub output_line : List ℕ → List ℕ → List ℕ
output_line name ns = codes "output" ++ field name ++ flat_map number ns ++ 10 ∷ []
