-- Masks no two of which have a bit in common, while digits are put behind them.
use Rattle.std.proofs.Common.{◌≡◌, ◌≤◌, ◌<◌, ◌+◌, ◌-◌, ◌*◌, ◌%◌, ◌^◌, ◌==◌, ℕ, Bool, true, false, List, [], ◌∷◌, if◌then◌else◌, ◌||◌, arith, ap, ap₂, sym, refl, subst, ◌∙◌, ◌⊎◌, inl, inr, true≢false, add-mul, one-mul, mul_assoc, mul-le-mul_right, mod-eq_of_lt}
use Rattle.std.specs.Bool.{⊤}
use Rattle.std.proofs.lemmas.Nat.{pow-add, pow_pos, mod_below, mod-pow-add, shr_high, mod_low}
use Rattle.std.proofs.lemmas.Bool.{cases_lt, eqb-true}
use Rattle.std.proofs.Math.Nat.{mul-add-mod_self_right, zero-mod}
use Rattle.v_meaning.specs.Literals.{begins, digit_value, is_x, is_z, number_behind}
use Rattle.v_numbers.specs.Ones.{ones_where}
use Rattle.v_numbers.proofs.Padded.{power_split}

-- at no bit is more than one of them 1: no sum of their low bits carries
abbrev pub IsApart : ℕ → ℕ → ℕ → Type 0
IsApart a b c = (w : ℕ) → a % 2 ^ w + b % 2 ^ w + c % 2 ^ w < 2 ^ w

pub first_alone : (n : ℕ) → IsApart n 0 0
first_alone n = λ w. omega (arith, mod_below n (2 ^ w) (pow_pos w), zero-mod (2 ^ w))

pub second_alone : (n : ℕ) → IsApart 0 n 0
second_alone n = λ w. omega (arith, mod_below n (2 ^ w) (pow_pos w), zero-mod (2 ^ w))

pub third_alone : (n : ℕ) → IsApart 0 0 n
third_alone n = λ w. omega (arith, mod_below n (2 ^ w) (pow_pos w), zero-mod (2 ^ w))

cut_low : (n v k w : ℕ) → w ≤ k → (n * 2 ^ k + v) % 2 ^ w ≡ v % 2 ^ w
cut_low n v k w h =
    ap (λ x. (n * x + v) % 2 ^ w) (power_split k w h) ∙ ap (λ x. (x + v) % 2 ^ w) (sym (mul_assoc n (2 ^ (k - w)) (2 ^ w)))
    ∙ mul-add-mod_self_right (n * 2 ^ (k - w)) (2 ^ w) v

cut_high : (n v j k : ℕ) → v < 2 ^ k → (n * 2 ^ k + v) % 2 ^ (j + k) ≡ n % 2 ^ j * 2 ^ k + v
cut_high n v j k h = mod-pow-add (n * 2 ^ k + v) j k ∙ ap₂ (λ x y. x % 2 ^ j * 2 ^ k + y) (shr_high n k v h) (mod_low n k v h)

distribute : (p q r k : ℕ) → (p + q + r + 1) * k ≡ p * k + q * k + r * k + k
distribute p q r k = omega (arith, add-mul (p + q + r) 1 k, one-mul k, add-mul (p + q) r k, add-mul p q k)

-- a digit behind each of them
pub apart_digit : (k a b c v x z : ℕ) → IsApart a b c → IsApart v x z → v < 2 ^ k → x < 2 ^ k → z < 2 ^ k →
    IsApart (a * 2 ^ k + v) (b * 2 ^ k + x) (c * 2 ^ k + z)
apart_digit k a b c v x z p q f g h = λ w. by_order w (cases_lt w k)
  where
    high : (j : ℕ) → (a * 2 ^ k + v) % 2 ^ (j + k) + (b * 2 ^ k + x) % 2 ^ (j + k) + (c * 2 ^ k + z) % 2 ^ (j + k) < 2 ^ (j + k)
    high j =
        let above : (a % 2 ^ j + b % 2 ^ j + c % 2 ^ j + 1) * 2 ^ k ≤ 2 ^ j * 2 ^ k = mul-le-mul_right (2 ^ k) (omega (arith, p j)) in
        let split : (a % 2 ^ j + b % 2 ^ j + c % 2 ^ j + 1) * 2 ^ k ≡ a % 2 ^ j * 2 ^ k + b % 2 ^ j * 2 ^ k + c % 2 ^ j * 2 ^ k + 2 ^ k =
        distribute (a % 2 ^ j) (b % 2 ^ j) (c % 2 ^ j) (2 ^ k) in
        let v_is : v % 2 ^ k ≡ v = mod-eq_of_lt f in
        let x_is : x % 2 ^ k ≡ x = mod-eq_of_lt g in
        let z_is : z % 2 ^ k ≡ z = mod-eq_of_lt h in
        omega (arith, cut_high a v j k f, cut_high b x j k g, cut_high c z j k h, q k, pow-add 2 j k)

    by_order : (w : ℕ) → (w < k) ⊎ (k ≤ w) → (a * 2 ^ k + v) % 2 ^ w + (b * 2 ^ k + x) % 2 ^ w + (c * 2 ^ k + z) % 2 ^ w < 2 ^ w
    by_order w (inl l) =
        let le : w ≤ k = omega arith in
        omega (arith, cut_low a v k w le, cut_low b x k w le, cut_low c z k w le, q w)
    by_order w (inr l) =
        let e : (w - k) + k ≡ w = omega arith in
        subst (λ n. (a * 2 ^ k + v) % 2 ^ n + (b * 2 ^ k + x) % 2 ^ n + (c * 2 ^ k + z) % 2 ^ n < 2 ^ n) e (high (w - k))

-- a digit of so many bits
pub record IsDigit (bits digit : ℕ) : Type 0 where
  pub fits : digit_value digit < 2 ^ bits
  pub apart : IsApart (digit_value digit) (ones_where is_x bits digit) (ones_where is_z bits digit)

abbrev pub AreDigits : ℕ → List ℕ → Type 0
AreDigits bits [] = ⊤
AreDigits bits (d ∷ ds) = IsDigit bits d × AreDigits bits ds

ones_fit : (b : Bool) (k : ℕ) → (if b then 2 ^ k - 1 else 0) < 2 ^ k
ones_fit true k = omega (arith, pow_pos k)
ones_fit false k = pow_pos k

pub apart_all : (k a b c : ℕ) (ds : List ℕ) → IsApart a b c → AreDigits k ds →
    IsApart (number_behind a (2 ^ k) digit_value ds) (number_behind b (2 ^ k) (ones_where is_x k) ds) (number_behind c (2 ^ k) (ones_where is_z k) ds)
apart_all k a b c [] p _ = p
apart_all k a b c (d ∷ ds) p digits =
    apart_all k (a * 2 ^ k + digit_value d) (b * 2 ^ k + ones_where is_x k d) (c * 2 ^ k + ones_where is_z k d) ds
    (apart_digit k a b c (digit_value d) (ones_where is_x k d) (ones_where is_z k d) p digits.0.apart digits.0.fits (ones_fit (is_x d) k) (ones_fit (is_z d) k))
    digits.1

pub or_cases : (a b : Bool) → (a || b) ≡ true → (a ≡ true) ⊎ (b ≡ true)
or_cases true b h = inl refl
or_cases false b h = inr h

-- the bytes of x
x_byte : (d : ℕ) → is_x d ≡ true → (d ≡ 120) ⊎ (d ≡ 88)
x_byte d h = by_case (or_cases (d == 120) (d == 88) h)
  where
    by_case : ((d == 120) ≡ true) ⊎ ((d == 88) ≡ true) → (d ≡ 120) ⊎ (d ≡ 88)
    by_case (inl e) = inl (eqb-true d 120 e)
    by_case (inr e) = inr (eqb-true d 88 e)

pub x_no_z : (d : ℕ) → is_x d ≡ true → is_z d ≡ false
x_no_z d h = by_byte (x_byte d h)
  where
    by_byte : (d ≡ 120) ⊎ (d ≡ 88) → is_z d ≡ false
    by_byte (inl e) = ap is_z e
    by_byte (inr e) = ap is_z e

-- what goes on above the first digit
pub begun : (m : ℕ) (ds : List ℕ) → IsApart 0 (if begins is_x ds then m else 0) (if begins is_z ds then m else 0)
begun m [] = first_alone 0
begun m (d ∷ ds) = one_of (is_x d) (is_z d) (x_no_z d)
  where
    one_of : (a b : Bool) → (a ≡ true → b ≡ false) → IsApart 0 (if a then m else 0) (if b then m else 0)
    one_of true true h = absurd (true≢false (h refl))
    one_of true false h = second_alone m
    one_of false true h = third_alone m
    one_of false false h = first_alone 0
