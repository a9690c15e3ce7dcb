-- Powers of two at the width of a `u128`.
use Rattle.std.proofs.Common.{◌≡◌, ◌≤◌, ◌<◌, ◌*◌, ◌%◌, ◌^◌, ℕ, arith}
use Rattle.std.proofs.lemmas.Nat.{one_shl}
use Rattle.std.proofs.Math.Nat.{pow-le-pow_right}

-- a one that is shifted by less than 128 stays in a `u128`
pub power_fits : (w : ℕ) → w < 128 → (1 * 2 ^ w) % 2 ^ 128 ≡ 2 ^ w
power_fits w h = one_shl w 128 h

-- a wider word has the greater power
pub power_grows : (i j : ℕ) → i ≤ j → 2 ^ i ≤ 2 ^ j
power_grows i j h = pow-le-pow_right (omega arith) h
