-- Products, and the rows that they are made of. Of these definitions public clauses name `multiplied` alone.
use Rattle.std.specs.Prelude.{ℕ, ◌+◌, ◌*◌, ◌%◌, ◌^◌, Bool, if◌then◌else◌}

-- the product of two numbers, of which what passes the width is lost
abbrev pub multiplied : ℕ → ℕ → ℕ → ℕ
multiplied width m n = m * n % 2 ^ width

-- the number where the bit is 1, and else 0
abbrev pub masked : ℕ → Bool → ℕ
masked m b = if b then m else 0

-- a row with twice what stands above it, of which what passes the width is lost
abbrev pub with_above : ℕ → ℕ → ℕ → ℕ
with_above width row above = (row + 2 * above) % 2 ^ width
