-- How many leaves a look-up table has.
use Rattle.std.specs.Prelude.{ℕ}

-- the most leaves
abbrev pub most_leaves : ℕ
most_leaves = 6
