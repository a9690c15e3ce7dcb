-- Weights that depend on a width, as polynomials. No public clause names these.
use Rattle.std.specs.Prelude.{ℕ, ◌+◌, ◌*◌}
use Rattle.v_weight.specs.declared.polynomial.Polynomial.{Polynomial}
use Rattle.v_weight.specs.Saturated.{Same}

-- at a width
abbrev pub value_at : Polynomial → ℕ → ℕ
value_at p width = p.fixed + p.linear * width + p.square * (width * width)

-- The polynomial gives these numbers, where both stop at the greatest one.
pub record Gives (p : Polynomial) (f : ℕ → ℕ) : Type 0 where
  pub at : (width : ℕ) → Same (value_at p width) (f width)
