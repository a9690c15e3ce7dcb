-- Which operands an operator takes.
use Rattle.std.specs.Prelude.{ℕ, ◌<◌, ◌^◌, ⊤}
use Rattle.v_meaning.specs.Senses.{Class, Shared, Compared, Shifted, Logical}

-- The operands of an operator that works at a width: both are below 2 ^ width, but the right one of a shift may be any
-- number, and those of a logical operator, whose operands have widths of their own, any two.
abbrev pub AreOperands : Class → ℕ → ℕ → ℕ → Type 0
AreOperands Shared width left right = (left < 2 ^ width) × (right < 2 ^ width)
AreOperands Compared width left right = (left < 2 ^ width) × (right < 2 ^ width)
AreOperands Shifted width left right = left < 2 ^ width
AreOperands Logical width left right = ⊤
