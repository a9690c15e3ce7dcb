-- A look-up table in a line: how many numbers it is over, the numbers, and a bit for each of their values.
use Rattle.std.specs.Prelude.{◌≡◌, ℕ, ◌^◌, ◌<◌, ◌≤◌, List, ◌++◌, length, flat_map}
use Rattle.lz_lines.specs.Fields.{AllUpTo, field, greatest, hex, number}

-- K N .. TABLE
abbrev pub table_fields : List ℕ → ℕ → List ℕ
table_fields ns table = number (length ns) ++ (flat_map number ns ++ field (hex (2 ^ length ns) table))

-- numbers of which there are at most so many, and a table over them
abbrev pub IsTable : ℕ → List ℕ × ℕ → List ℕ → Type 0
IsTable most t text = (length t.0 ≤ most) × AllUpTo greatest t.0 × (t.1 < 2 ^ (2 ^ length t.0)) × (text ≡ table_fields t.0 t.1)
