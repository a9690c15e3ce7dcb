-- The exclusive or of all bits, by their count.
use Rattle.std.proofs.Common.{◌≡◌, ◌<◌, ◌+◌, ◌/◌, ◌%◌, ◌^◌, ◌==◌, ℕ, zero, suc, Bool, true, false, not, arith, ap, sym, refl, ◌∙◌, count_ones, add-zero, add-one}
use Rattle.std.proofs.lemmas.Nat.{ones_cat, div-add-mod', mod_below, shr_below}
use Rattle.std.proofs.lemmas.Bool.Decides.{nat_tests}
use lib.Count.{ones, ones_in}
use mathlib.Core.Bool.{xor}
use Rattle.v_meaning.specs.Senses.{parity}

-- one bit more of a number
ones_step : (n : ℕ) → count_ones n ≡ count_ones (n / 2) + count_ones (n % 2)
ones_step n = ap count_ones (sym (div-add-mod' n 2)) ∙ ones_cat 1 (n / 2) (n % 2) (mod_below n 2 (omega arith))

none : count_ones 0 ≡ 0
unfolding ones ones_in
none = refl

one : count_ones 1 ≡ 1
unfolding ones ones_in
one = refl

flips : (c : ℕ) → ((c + 1) % 2 == 1) ≡ not (c % 2 == 1)
flips c = grind (arith, nat_tests)

xor_false : (b : Bool) → xor false b ≡ b
unfolding xor
xor_false true = refl
xor_false false = refl

xor_true : (b : Bool) → xor true b ≡ not b
unfolding xor
xor_true true = refl
xor_true false = refl

-- one more turns an odd count into an even one
more : (b c : ℕ) → b < 2 → ((c + count_ones b) % 2 == 1) ≡ xor (b == 1) (c % 2 == 1)
more zero c h = rw none (rw add-zero (sym (xor_false (c % 2 == 1))))
more (suc zero) c h = rw one (flips c ∙ sym (xor_true (c % 2 == 1)))
more (suc (suc b)) c h = absurd (omega arith)

halved : (w n : ℕ) → n < 2 ^ suc w → n / 2 < 2 ^ w
halved w n h = shr_below n w 1 (rw add-one h)

-- it is 1 where their count is odd
pub parity_of_ones : (w n : ℕ) → n < 2 ^ w → (count_ones n % 2 == 1) ≡ parity w n
parity_of_ones zero n h = let e : n ≡ 0 = omega arith in ap (λ k. count_ones k % 2 == 1) e ∙ rw none refl
parity_of_ones (suc w) n h =
    ap (λ k. k % 2 == 1) (ones_step n) ∙ more (n % 2) (count_ones (n / 2)) (mod_below n 2 (omega arith)) ∙ ap (xor (n % 2 == 1)) (parity_of_ones w (n / 2) (halved w n h))
