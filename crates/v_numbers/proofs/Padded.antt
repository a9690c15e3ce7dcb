-- Masks whose leftmost digit goes on to the left.
use Rattle.std.proofs.Common.{◌≡◌, ◌≤◌, ◌<◌, ◌+◌, ◌-◌, ◌*◌, ◌%◌, ◌^◌, ℕ, zero, suc, Bool, true, false, List, [], ◌∷◌, length, if◌then◌else◌, arith, ap, sym, ◌∙◌, ◌⊎◌, inl, inr, add-mul, mul_assoc, mul_comm, mul_right_comm, mul-suc, suc-mul, pow-suc, add-zero, mul-one, mul-pos}
use Rattle.std.proofs.lemmas.Nat.{pow-add, pow_pos}
use Rattle.std.proofs.lemmas.Bool.{cases_lt}
use native.Mathlib.Numerals.{unary_clauses}
use Rattle.std.proofs.Math.Nat.{add-mul-mod_self_right, pow-le-pow_right}
use Rattle.std.proofs.Math.Pow.{mod-mod-pow}
use Rattle.v_meaning.specs.Literals.{begins, mask_of, number_behind, number_in}
use Rattle.v_numbers.specs.Ones.{ones_where}

pub power_grows : (i j : ℕ) → i ≤ j → 2 ^ i ≤ 2 ^ j
power_grows i j h = pow-le-pow_right (omega arith) h

-- what wrapped at 128 bits is cut as if it had not
pub cut_again : (n w : ℕ) → w ≤ 128 → n % 2 ^ 128 % 2 ^ w ≡ n % 2 ^ w
cut_again n w h = let e : 128 ≡ (128 - w) + w = omega arith in ap (λ k. n % 2 ^ k % 2 ^ w) e ∙ mod-mod-pow n (128 - w) w

-- a power of a power of 2
power_of : (b n : ℕ) → (2 ^ b) ^ n ≡ 2 ^ (b * n)
power_of b zero = simp unary_clauses
power_of b (suc n) = pow-suc (2 ^ b) n ∙ ap (λ x. x * 2 ^ b) (power_of b n) ∙ sym (pow-add 2 (b * n) b) ∙ ap (λ k. 2 ^ k) (sym (mul-suc b n))

-- what stands before digits is moved by all of them
moved : (s r : ℕ) (f : ℕ → ℕ) (ds : List ℕ) → number_behind s r f ds ≡ s * r ^ length ds + number_in r f ds
moved s r f [] = simp unary_clauses (sym (mul-one s))
moved s r f (d ∷ ds) =
    let here : number_behind (s * r + f d) r f ds ≡ (s * r + f d) * r ^ length ds + number_in r f ds = moved (s * r + f d) r f ds in
    let there : number_behind (0 * r + f d) r f ds ≡ (0 * r + f d) * r ^ length ds + number_in r f ds = moved (0 * r + f d) r f ds in
    let split : (s * r + f d) * r ^ length ds ≡ s * r * r ^ length ds + f d * r ^ length ds = add-mul (s * r) (f d) (r ^ length ds) in
    let plain : (0 * r + f d) * r ^ length ds ≡ f d * r ^ length ds = ap (λ n. n * r ^ length ds) (zero_first r (f d)) in
    let power : s * r ^ suc (length ds) ≡ s * r * r ^ length ds =
    ap (λ n. s * n) (pow-suc r (length ds) ∙ mul_comm (r ^ length ds) r) ∙ sym (mul_assoc s r (r ^ length ds)) in
    here ∙ omega (arith, there, split, plain, power)
  where
    zero_first : (r n : ℕ) → 0 * r + n ≡ n
    zero_first r n = omega arith

less_one : (x y : ℕ) → 0 < x → x * y ≡ (x - 1) * y + y
less_one x y h = let e : x ≡ suc (x - 1) = omega arith in ap (λ n. n * y) e ∙ suc-mul (x - 1) y

pub power_split : (k w : ℕ) → w ≤ k → 2 ^ k ≡ 2 ^ (k - w) * 2 ^ w
power_split k w h = let e : k ≡ (k - w) + w = omega arith in ap (λ j. 2 ^ j) e ∙ pow-add 2 (k - w) w

-- all ones before digits fill the word above them
filled : (p q k w n : ℕ) → p ≡ q * 2 ^ w → 0 < q → ((p - 1) * 2 ^ k + n) % 2 ^ w ≡ (n + (2 ^ w - 2 ^ k)) % 2 ^ w
filled p q k w n is pos = by_order (cases_lt k w)
  where
    positive : 0 < p
    positive = let both : 0 < q * 2 ^ w = mul-pos pos (pow_pos w) in omega (arith, is, both)

    by_order : (k < w) ⊎ (w ≤ k) → ((p - 1) * 2 ^ k + n) % 2 ^ w ≡ (n + (2 ^ w - 2 ^ k)) % 2 ^ w
    by_order (inl h) =
        let e : (p - 1) * 2 ^ k + n ≡ (n + (2 ^ w - 2 ^ k)) + (q * 2 ^ k - 1) * 2 ^ w =
        omega (
          arith,
          power_grows k w (omega arith),
          less_one p (2 ^ k) positive,
          less_one (q * 2 ^ k) (2 ^ w) (mul-pos pos (pow_pos k)),
          ap (λ x. x * 2 ^ k) is,
          mul_right_comm q (2 ^ w) (2 ^ k),
          mul-pos pos (pow_pos k),
        ) in
        ap (λ x. x % 2 ^ w) e ∙ add-mul-mod_self_right (n + (2 ^ w - 2 ^ k)) (q * 2 ^ k - 1) (2 ^ w)
    by_order (inr h) =
        let e : (p - 1) * 2 ^ k + n ≡ (n + (2 ^ w - 2 ^ k)) + ((p - 1) * 2 ^ (k - w)) * 2 ^ w =
        omega (arith, power_grows w k h, ap (λ x. (p - 1) * x) (power_split k w h), mul_assoc (p - 1) (2 ^ (k - w)) (2 ^ w)) in
        ap (λ x. x % 2 ^ w) e ∙ add-mul-mod_self_right (n + (2 ^ w - 2 ^ k)) ((p - 1) * 2 ^ (k - w)) (2 ^ w)

-- the mask of digits, by the bits that go on above them
pub padded : (test : ℕ → Bool) (bits w : ℕ) (ds : List ℕ) → w ≤ 128 →
    number_behind (if begins test ds then 2 ^ 128 - 1 else 0) (2 ^ bits) (ones_where test bits) ds % 2 ^ w ≡ mask_of test bits w ds
padded test bits w ds h = by_first (begins test ds)
  where
    by_first : (b : Bool) → number_behind (if b then 2 ^ 128 - 1 else 0) (2 ^ bits) (ones_where test bits) ds % 2 ^ w
        ≡ (number_in (2 ^ bits) (ones_where test bits) ds + (if b then 2 ^ w - 2 ^ (bits * length ds) else 0)) % 2 ^ w
    by_first true =
        ap (λ x. x % 2 ^ w) (moved (2 ^ 128 - 1) (2 ^ bits) (ones_where test bits) ds
        ∙ ap (λ y. (2 ^ 128 - 1) * y + number_in (2 ^ bits) (ones_where test bits) ds) (power_of bits (length ds)))
        ∙ filled (2 ^ 128) (2 ^ (128 - w)) (bits * length ds) w (number_in (2 ^ bits) (ones_where test bits) ds) (power_split 128 w h) (pow_pos (128 - w))
    by_first false = ap (λ x. x % 2 ^ w) (sym (add-zero (number_in (2 ^ bits) (ones_where test bits) ds)))
