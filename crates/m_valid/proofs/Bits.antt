-- The bits of tables.
use Rattle.std.proofs.Common.{w64, ◌≡◌, ◌≢◌, ◌<◌, ◌+◌, ◌-◌, ◌*◌, ◌/◌, ◌%◌, ◌^◌, ◌==◌, ◌&&◌, ℕ, zero, suc, min, List, [], ◌∷◌, get_or, Bool, true, false, refl, ap, sym, ◌∙◌, arith, inl, inr}
use Rattle.std.specs.Int.{bit_at, bit_not}
use Rattle.std.specs.Int.Bits.{bit_and, bit_xor}
use Rattle.std.proofs.lemmas.Bool.{agree_below_at}
use Rattle.std.proofs.lemmas.Nat.{pow_pos}
use Rattle.std.proofs.lemmas.Nat.Bits.{bit_at_and, bit_at_xor, bit_at_not, bit_at-zero, bit_at-lt, bit_at_cat_low, same_from_bits_below}
use Rattle.std.proofs.lemmas.Bool.{eqb-true}
use Rattle.std.proofs.lemmas.Bool.Decides.{eqb_tells}
use Rattle.std.proofs.Math.Nat.{mod-lt}
use mathlib.Core.Bool.{xor}
use Rattle.n_cells.specs.Run.{table_bit}
use Rattle.m_valid.specs.Validity.{agree, same}
use Rattle.m_valid.specs.Walk.{HasBits, literal_bit}
use Rattle.m_valid.proofs.Lists.{eq_true, eq_false}

two_xor : (x y : ℕ) → x < 2 → y < 2 → ((x + y) % 2 == 1) ≡ xor (x == 1) (y == 1)
unfolding xor
two_xor zero zero hx hy = refl
two_xor zero (suc zero) hx hy = refl
two_xor (suc zero) zero hx hy = refl
two_xor (suc zero) (suc zero) hx hy = refl
two_xor (suc (suc x)) y hx hy = absurd (omega arith)
two_xor zero (suc (suc y)) hx hy = absurd (omega arith)
two_xor (suc zero) (suc (suc y)) hx hy = absurd (omega arith)

two_and : (x y : ℕ) → x < 2 → y < 2 → (min x y == 1) ≡ (x == 1) && (y == 1)
two_and zero zero hx hy = refl
two_and zero (suc zero) hx hy = refl
two_and (suc zero) zero hx hy = refl
two_and (suc zero) (suc zero) hx hy = refl
two_and (suc (suc x)) y hx hy = absurd (omega arith)
two_and zero (suc (suc y)) hx hy = absurd (omega arith)
two_and (suc zero) (suc (suc y)) hx hy = absurd (omega arith)

two_not : (x : ℕ) → x < 2 → (1 - x == 1) ≡ xor true (x == 1)
unfolding xor
two_not zero hx = refl
two_not (suc zero) hx = refl
two_not (suc (suc x)) hx = absurd (omega arith)

pub bit_xor_is : (a b i : ℕ) → table_bit (bit_xor a b) i ≡ xor (table_bit a i) (table_bit b i)
bit_xor_is a b i = ap (λ x. x == 1) (bit_at_xor a b i) ∙ two_xor (bit_at a i) (bit_at b i) (bit_at-lt a i) (bit_at-lt b i)

pub bit_and_is : (a b i : ℕ) → table_bit (bit_and a b) i ≡ table_bit a i && table_bit b i
bit_and_is a b i = ap (λ x. x == 1) (bit_at_and a b i) ∙ two_and (bit_at a i) (bit_at b i) (bit_at-lt a i) (bit_at-lt b i)

pub bit_zero_is : (i : ℕ) → table_bit 0 i ≡ false
bit_zero_is i = ap (λ x. x == 1) (bit_at-zero i)

-- the six tables of the leaves
abbrev pub leaf_tables : List ℕ
leaf_tables =
    0xaaaa_aaaa_aaaa_aaaa ∷ 0xcccc_cccc_cccc_cccc ∷ 0xf0f0_f0f0_f0f0_f0f0 ∷ 0xff00_ff00_ff00_ff00 ∷ 0xffff_0000_ffff_0000 ∷ 0xffff_ffff_0000_0000 ∷ []

pub leaf_bits : (j : ℕ) → j < 6 → HasBits (get_or leaf_tables j 0) (λ i. (i / 2 ^ j % 2) == 1)
leaf_bits zero h i lt = agree_below_at (table_bit 0xaaaa_aaaa_aaaa_aaaa) (λ k. (k / 2 ^ 0 % 2) == 1) 64 i refl lt
leaf_bits (suc zero) h i lt = agree_below_at (table_bit 0xcccc_cccc_cccc_cccc) (λ k. (k / 2 ^ 1 % 2) == 1) 64 i refl lt
leaf_bits (suc (suc zero)) h i lt = agree_below_at (table_bit 0xf0f0_f0f0_f0f0_f0f0) (λ k. (k / 2 ^ 2 % 2) == 1) 64 i refl lt
leaf_bits (suc (suc (suc zero))) h i lt = agree_below_at (table_bit 0xff00_ff00_ff00_ff00) (λ k. (k / 2 ^ 3 % 2) == 1) 64 i refl lt
leaf_bits (suc (suc (suc (suc zero)))) h i lt = agree_below_at (table_bit 0xffff_0000_ffff_0000) (λ k. (k / 2 ^ 4 % 2) == 1) 64 i refl lt
leaf_bits (suc (suc (suc (suc (suc zero))))) h i lt = agree_below_at (table_bit 0xffff_ffff_0000_0000) (λ k. (k / 2 ^ 5 % 2) == 1) 64 i refl lt
leaf_bits (suc (suc (suc (suc (suc (suc j)))))) h i lt = absurd (omega arith)

-- Tables agree where their low bits are one number.
same_self : (b : Bool) → same b b ≡ true
same_self true = refl
same_self false = refl

same_is : (a b : Bool) → same a b ≡ true → a ≡ b
same_is true true e = refl
same_is true false e = cc
same_is false true e = cc
same_is false false e = refl

both_first : (a b : Bool) → (a && b) ≡ true → a ≡ true
both_first true b e = refl
both_first false b e = cc

both_second : (a b : Bool) → (a && b) ≡ true → b ≡ true
both_second true b e = e
both_second false b e = cc

pub agree_at : (n : ℕ) (f g : ℕ → Bool) (i : ℕ) → agree n f g ≡ true → i < n → f i ≡ g i
unfolding agree
agree_at zero f g i e lt = absurd (omega arith)
agree_at (suc n) f g i e lt = elim (eqb_tells i n) [
  | inl at ↦ ap f at.1 ∙ same_is (f n) (g n) (both_first (same (f n) (g n)) (agree n f g) e) ∙ ap g (sym at.1)
  | inr other ↦ agree_at n f g i (both_second (same (f n) (g n)) (agree n f g) e) (omega (arith, other.1))
]

pub agree_from : (n : ℕ) (f g : ℕ → Bool) → ((i : ℕ) → i < n → f i ≡ g i) → agree n f g ≡ true
unfolding agree
agree_from zero f g h = refl
agree_from (suc n) f g h =
    rw (h n (omega arith), same_self (g n), agree_from n f g (λ i lt. h i (omega arith))) refl

-- whether they agree is the same of functions that are the same below the bound
pub agree_alike : (n : ℕ) (f g h : ℕ → Bool) → ((i : ℕ) → i < n → f i ≡ g i) → agree n f h ≡ agree n g h
unfolding agree
agree_alike zero f g h e = refl
agree_alike (suc n) f g h e = rw (e n (omega arith), agree_alike n f g h (λ i lt. e i (omega arith))) refl

-- bit i of the low bits
pub low_bit : (w a i : ℕ) → i < w → bit_at (a % 2 ^ w) i ≡ bit_at a i
low_bit w a i lt =
    let some : 0 < 2 ^ w = pow_pos w in
    let whole : a / 2 ^ w * 2 ^ w + a % 2 ^ w ≡ a = omega (arith, some) in
    sym (bit_at_cat_low (a / 2 ^ w) w (a % 2 ^ w) i lt) ∙ ap (λ x. bit_at x i) whole

bit_from : (x y : ℕ) → x < 2 → y < 2 → (x == 1) ≡ (y == 1) → x ≡ y
bit_from zero zero hx hy e = refl
bit_from zero (suc zero) hx hy e = cc
bit_from (suc zero) zero hx hy e = cc
bit_from (suc zero) (suc zero) hx hy e = refl
bit_from (suc (suc x)) y hx hy e = absurd (omega arith)
bit_from zero (suc (suc y)) hx hy e = absurd (omega arith)
bit_from (suc zero) (suc (suc y)) hx hy e = absurd (omega arith)

low_same : (w a b : ℕ) → a % 2 ^ w ≡ b % 2 ^ w → agree w (table_bit a) (table_bit b) ≡ true
low_same w a b e = agree_from w (table_bit a) (table_bit b) (λ i lt. ap (λ x. x == 1) (sym (low_bit w a i lt) ∙ ap (λ x. bit_at x i) e ∙ low_bit w b i lt))

low_from : (w a b : ℕ) → agree w (table_bit a) (table_bit b) ≡ true → a % 2 ^ w ≡ b % 2 ^ w
low_from w a b e =
    same_from_bits_below w (a % 2 ^ w) (b % 2 ^ w) (mod-lt a (pow_pos w)) (mod-lt b (pow_pos w))
    (λ i lt. low_bit w a i lt ∙ bit_from (bit_at a i) (bit_at b i) (bit_at-lt a i) (bit_at-lt b i) (agree_at w (table_bit a) (table_bit b) i e lt) ∙ sym (low_bit w b i lt))

same_tests : (p q : Bool) → (p ≡ true → q ≡ true) → (q ≡ true → p ≡ true) → p ≡ q
same_tests true q f g = sym (f refl)
same_tests false true f g = g refl
same_tests false false f g = refl

pub low_agree : (w a b : ℕ) → (a % 2 ^ w == b % 2 ^ w) ≡ agree w (table_bit a) (table_bit b)
low_agree w a b = same_tests _ _ (λ e. low_same w a b (eqb-true (a % 2 ^ w) (b % 2 ^ w) e)) (λ e. eq_true (a % 2 ^ w) (b % 2 ^ w) (low_from w a b e))

-- the table of a literal
pub odd_bits : (literal table i : ℕ) → literal % 2 ≡ 1 → table < 2 ^ 64 → i < 64 → table_bit (bit_not w64 table) i ≡ literal_bit literal table i
odd_bits literal table i odd fits lt =
    ap (λ x. x == 1) (bit_at_not w64 table i fits lt) ∙ two_not (bit_at table i) (bit_at-lt table i) ∙ ap (λ b. xor b (table_bit table i)) (sym (eq_true (literal % 2) 1 odd))

xor_false : (b : Bool) → xor false b ≡ b
unfolding xor
xor_false true = refl
xor_false false = refl

pub even_bits : (literal table i : ℕ) → literal % 2 ≢ 1 → table_bit table i ≡ literal_bit literal table i
even_bits literal table i even = sym (xor_false (table_bit table i)) ∙ ap (λ b. xor b (table_bit table i)) (sym (eq_false (literal % 2) 1 even))
