-- The bits of a mask, counted, and other bits in their places.
use Rattle.std.proofs.Common.{◌≡◌, ◌≤◌, ◌<◌, ◌+◌, ◌-◌, ◌*◌, ◌/◌, ◌%◌, ◌^◌, ◌≢◌, ℕ, zero, suc, arith, ap, ap₂, sym, refl, ◌∙◌, count_ones, bit_and, add_comm, add-one, mod-eq_of_lt, mul_comm}
use Rattle.std.proofs.lemmas.Nat.{ones_cat, div-add-mod', mod_below, shr_below, and_mask}
use lib.Count.{ones, ones_in}
use Rattle.v_meaning.specs.Literals as literals
use Rattle.v_meaning.specs.Literals.{spread}

-- one bit more of a number
ones_step : (n : ℕ) → count_ones n ≡ count_ones (n / 2) + count_ones (n % 2)
ones_step n = ap count_ones (sym (div-add-mod' n 2)) ∙ ones_cat 1 (n / 2) (n % 2) (mod_below n 2 (omega arith))

none : count_ones 0 ≡ 0
unfolding ones ones_in
none = refl

one : count_ones 1 ≡ 1
unfolding ones ones_in
one = refl

of_bit : (b : ℕ) → b < 2 → count_ones b ≡ b
of_bit zero h = none
of_bit (suc zero) h = one
of_bit (suc (suc b)) h = absurd (omega arith)

halved : (w n : ℕ) → n < 2 ^ suc w → n / 2 < 2 ^ w
halved w n h = shr_below n w 1 (rw add-one h)

pub counted : (w n : ℕ) → n < 2 ^ w → count_ones n ≡ literals.ones_in w n
counted zero n h = let e : n ≡ 0 = omega arith in ap count_ones e ∙ none
counted (suc w) n h =
    ones_step n ∙ ap₂ (λ x y. x + y) (counted w (n / 2) (halved w n h)) (of_bit (n % 2) (mod_below n 2 (omega arith)))
    ∙ add_comm (literals.ones_in w (n / 2)) (n % 2)

-- nothing is open
pub spread_nothing : (w bits : ℕ) → spread w 0 bits ≡ 0
spread_nothing zero bits = refl
spread_nothing (suc w) bits = ap (λ n. 2 * n) (spread_nothing w bits)

-- the lowest bit is closed
spread_closed : (w mask bits : ℕ) → w ≢ 0 → mask % 2 ≡ 0 → spread w mask bits ≡ 2 * spread (w - 1) (mask / 2) bits
spread_closed zero mask bits w h = absurd (w refl)
spread_closed (suc w) mask bits _ h = rw h (ap (λ k. 2 * spread k (mask / 2) bits) (sym (less w)))
  where
    less : (w : ℕ) → suc w - 1 ≡ w
    less w = omega arith

-- the lowest bit is open
spread_open : (w mask bits : ℕ) → w ≢ 0 → mask % 2 ≡ 1 → spread w mask bits ≡ bits % 2 + 2 * spread (w - 1) (mask / 2) (bits / 2)
spread_open zero mask bits w h = absurd (w refl)
spread_open (suc w) mask bits _ h = rw h (ap (λ k. bits % 2 + 2 * spread k (mask / 2) (bits / 2)) (sym (less w)))
  where
    less : (w : ℕ) → suc w - 1 ≡ w
    less w = omega arith

-- the same, as the code has it
pub closed_turn : (w mask bits above : ℕ) → mask < 2 ^ 128 → w ≢ 0 → bit_and mask 1 ≡ 0 → above ≡ spread (w - 1) (mask / 2) bits → above ≤ mask / 2 →
    above * 2 % 2 ^ 128 ≡ spread w mask bits
closed_turn w mask bits above fits h even e within =
    mod-eq_of_lt (omega arith) ∙ mul_comm above 2 ∙ ap (λ n. 2 * n) e ∙ sym (spread_closed w mask bits h (sym (and_mask mask 1) ∙ even))

pub open_turn : (w mask bits above : ℕ) → mask < 2 ^ 128 → w ≢ 0 → bit_and mask 1 ≢ 0 → above ≡ spread (w - 1) (mask / 2) (bits / 2) → above ≤ mask / 2 →
    above * 2 % 2 ^ 128 + bit_and bits 1 ≡ spread w mask bits
open_turn w mask bits above fits h odd e within =
    let low : mask % 2 ≡ 1 = omega (arith, and_mask mask 1, mod_below mask 2 (omega arith)) in
    let whole : above * 2 % 2 ^ 128 ≡ above * 2 = mod-eq_of_lt (omega arith) in
    omega (arith, whole, and_mask bits 1, e, spread_open w mask bits h low)
