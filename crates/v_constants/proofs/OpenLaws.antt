-- Tests of two facts, and where a value can be had.
use Rattle.std.proofs.Common.{◌≡◌, ◌<◌, ◌≤◌, ◌&&◌, ℕ, Bool, true, false, refl}
use Rattle.std.specs.Prelude.{◌^◌, nat_le, nat_lt}
use Rattle.std.proofs.lemmas.Bool.{le-leb, lt-ltb}

pub both : (a b : Bool) → a ≡ true → b ≡ true → (a && b) ≡ true
both true b h k = k
both false b h k = absurd (cc h)

pub first_of : (a b : Bool) → (a && b) ≡ true → a ≡ true
first_of true b h = refl
first_of false b h = absurd (cc h)

pub second_of : (a b : Bool) → (a && b) ≡ true → b ≡ true
second_of true b h = h
second_of false b h = absurd (cc h)

pub not_first : (a b : Bool) → a ≡ false → (a && b) ≡ false
not_first true b h = absurd (cc h)
not_first false b h = refl

pub not_second : (a b : Bool) → b ≡ false → (a && b) ≡ false
not_second true b h = h
not_second false b h = refl

pub leaf_fits : (width value w : ℕ) → 1 ≤ width → value < 2 ^ width → width ≤ w → (nat_le 1 width && nat_le width w && nat_lt value (2 ^ width)) ≡ true
leaf_fits width value w a b c = both _ _ (both _ _ (le-leb 1 width a) (le-leb width w c)) (lt-ltb value (2 ^ width) b)
