-- Numbers that stop at the greatest one of 64 bits.
use Rattle.std.specs.Prelude.{◌≡◌, ℕ, ◌-◌, ◌^◌, min}

-- Two numbers stop at the same one.
pub record Same (m n : ℕ) : Type 0 where
  pub stops : min m (2 ^ 64 - 1) ≡ min n (2 ^ 64 - 1)
