-- The bits of a digit.
use Rattle.std.specs.Prelude.{ℕ, ◌-◌, ◌^◌, Bool, if◌then◌else◌}

-- all bits of a digit that passes, so many, else none
abbrev pub ones_where : (ℕ → Bool) → ℕ → ℕ → ℕ
ones_where test bits digit = if test digit then 2 ^ bits - 1 else 0
