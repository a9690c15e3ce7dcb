-- Powers of two up to the width of a `u128`, and what masks, shifts and wrapped arithmetic make of them.
use Rattle.std.proofs.Common.{◌≡◌, ◌≤◌, ◌<◌, ◌+◌, ◌-◌, ◌*◌, ◌/◌, ◌%◌, ◌^◌, ℕ, suc, arith, ap, ap₂, sym, ◌∙◌, bit_and, mul_assoc, mul_comm, lt_of_le_of_lt, suc-mul, add-mul, one-mul}
use Rattle.std.proofs.lemmas.Nat.{one_shl, pow-add, pow_pos, and_le_l, div-add-mod', shr_high, shr_le, mod_below}
use Rattle.std.proofs.Math.Nat.{pow-le-pow_right, div-eq_of_lt, mul-mod_left, add-mul-mod_self_right}
use Rattle.std.proofs.Math.Pow.{mod-mod-pow}

-- a one that is shifted by less than 128 stays in a `u128`
pub power_fits : (w : ℕ) → w < 128 → (1 * 2 ^ w) % 2 ^ 128 ≡ 2 ^ w
power_fits w h = one_shl w 128 h

-- a wider word has the greater power
pub power_grows : (i j : ℕ) → i ≤ j → 2 ^ i ≤ 2 ^ j
power_grows i j h = pow-le-pow_right (omega arith) h

-- what wrapped at 128 bits is cut as if it had not
pub cut_again : (n w : ℕ) → w ≤ 128 → n % 2 ^ 128 % 2 ^ w ≡ n % 2 ^ w
cut_again n w h = let e : 128 ≡ (128 - w) + w = omega arith in ap (λ k. n % 2 ^ k % 2 ^ w) e ∙ mod-mod-pow n (128 - w) w

-- 1 is a value of every width
pub one_below : (w : ℕ) → 1 ≤ w → 1 < 2 ^ w
one_below w h = omega (arith, power_grows 1 w h)

-- 2 ^ 128 is a multiple of each smaller power
pub top_power : (w : ℕ) → w ≤ 128 → 2 ^ 128 ≡ 2 ^ (128 - w) * 2 ^ w
top_power w h = let e : 128 ≡ (128 - w) + w = omega arith in ap (λ k. 2 ^ k) e ∙ pow-add 2 (128 - w) w

-- a product is one factor more than that of one less
less_one : (x y : ℕ) → 0 < x → x * y ≡ (x - 1) * y + y
less_one x y h = let e : x ≡ suc (x - 1) = omega arith in ap (λ n. n * y) e ∙ suc-mul (x - 1) y

-- a difference that wrapped at 128 bits is cut to the difference that wrapped at the width
pub difference_cut : (a b w : ℕ) → w ≤ 128 → b < 2 ^ w → (a + (2 ^ 128 - b)) % 2 ^ 128 % 2 ^ w ≡ (a + (2 ^ w - b)) % 2 ^ w
difference_cut a b w h fits =
    let e : a + (2 ^ 128 - b) ≡ (a + (2 ^ w - b)) + (2 ^ (128 - w) - 1) * 2 ^ w =
    omega (arith, top_power w h, less_one (2 ^ (128 - w)) (2 ^ w) (pow_pos (128 - w)), pow_pos (128 - w)) in
    cut_again (a + (2 ^ 128 - b)) w h ∙ ap (λ n. n % 2 ^ w) e ∙ add-mul-mod_self_right (a + (2 ^ w - b)) (2 ^ (128 - w) - 1) (2 ^ w)

-- what is shifted by 128 or more is gone
pub all_shifted_out : (a k : ℕ) → a < 2 ^ 128 → 128 ≤ k → a / 2 ^ k ≡ 0
all_shifted_out a k f h = div-eq_of_lt (omega (arith, power_grows 128 k h))

-- what is shifted by its width or more is gone
pub shifted_out : (a k w : ℕ) → w ≤ k → a * 2 ^ k % 2 ^ w ≡ 0
shifted_out a k w h =
    let e : k ≡ (k - w) + w = omega arith in
    ap (λ j. a * 2 ^ j % 2 ^ w) e ∙ ap (λ x. a * x % 2 ^ w) (pow-add 2 (k - w) w)
    ∙ ap (λ x. x % 2 ^ w) (sym (mul_assoc a (2 ^ (k - w)) (2 ^ w))) ∙ mul-mod_left (a * 2 ^ (k - w)) (2 ^ w)

three : (a b n w : ℕ) → a + b + 1 ≡ w → w * n ≡ a * n + b * n + n
three a b n w e = ap (λ x. x * n) (sym e) ∙ add-mul (a + b) 1 n ∙ ap₂ (λ x y. x + y) (add-mul a b n) (one-mul n)

-- ones shift in where what is shifted is inverted before and after
pub ones_from_above : (m n w : ℕ) → m < 2 ^ w → 2 ^ w - 1 - (2 ^ w - 1 - m) / 2 ^ n ≡ (m + (2 ^ n - 1) * 2 ^ w) / 2 ^ n
ones_from_above m n w h =
    let split : (2 ^ w - 1 - m) / 2 ^ n * 2 ^ n + (2 ^ w - 1 - m) % 2 ^ n ≡ 2 ^ w - 1 - m = div-add-mod' (2 ^ w - 1 - m) (2 ^ n) in
    let fits : (2 ^ w - 1 - m) / 2 ^ n ≤ 2 ^ w - 1 = omega (arith, shr_le (2 ^ w - 1 - m) n) in
    let low : (2 ^ w - 1 - m) % 2 ^ n < 2 ^ n = mod_below (2 ^ w - 1 - m) (2 ^ n) (pow_pos n) in
    let whole : 2 ^ w * 2 ^ n ≡ (2 ^ w - 1 - (2 ^ w - 1 - m) / 2 ^ n) * 2 ^ n + (2 ^ w - 1 - m) / 2 ^ n * 2 ^ n + 2 ^ n =
    three (2 ^ w - 1 - (2 ^ w - 1 - m) / 2 ^ n) ((2 ^ w - 1 - m) / 2 ^ n) (2 ^ n) (2 ^ w) (omega (arith, pow_pos w)) in
    let e : m + (2 ^ n - 1) * 2 ^ w ≡ (2 ^ w - 1 - (2 ^ w - 1 - m) / 2 ^ n) * 2 ^ n + (2 ^ n - 1 - (2 ^ w - 1 - m) % 2 ^ n) =
    omega (arith, split, fits, low, whole, less_one (2 ^ n) (2 ^ w) (pow_pos n), mul_comm (2 ^ n) (2 ^ w)) in
    sym (ap (λ x. x / 2 ^ n) e ∙ shr_high (2 ^ w - 1 - (2 ^ w - 1 - m) / 2 ^ n) n (2 ^ n - 1 - (2 ^ w - 1 - m) % 2 ^ n) (omega arith))

-- bits that both words have
pub and_below : (a b w : ℕ) → a < 2 ^ w → bit_and a b < 2 ^ w
and_below a b w h = lt_of_le_of_lt (and_le_l a b) h
