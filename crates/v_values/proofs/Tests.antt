-- What tests tell that hold together.
use Rattle.std.proofs.Common.{◌≡◌, ◌≤◌, refl, ◌&&◌, ℕ, Bool, true, false}
use Rattle.std.specs.Prelude.{nat_le}
use Rattle.std.proofs.lemmas.Bool.{leb-true}
use Rattle.v_core.specs.Formed.{is_width}

pub first_of : (a b : Bool) → (a && b) ≡ true → a ≡ true
first_of true b h = refl
first_of false b h = absurd (cc h)

pub second_of : (a b : Bool) → (a && b) ≡ true → b ≡ true
second_of true b h = h
second_of false b h = absurd (cc h)

pub has_bit : (w : ℕ) → is_width w ≡ true → 1 ≤ w
has_bit w h = leb-true 1 w (first_of (nat_le 1 w) (nat_le w 128) h)

pub within : (w : ℕ) → is_width w ≡ true → w ≤ 128
within w h = leb-true w 128 (second_of (nat_le 1 w) (nat_le w 128) h)
