-- Words side by side, and words with other bits in their midst.
use Rattle.std.proofs.Common.{◌≡◌, ◌≤◌, ◌<◌, ◌+◌, ◌-◌, ◌*◌, ◌/◌, ◌%◌, ◌^◌, ℕ, arith, ap, sym, ◌∙◌, subst, bit_or, add_comm}
use Rattle.std.proofs.lemmas.Nat.{pow-add, pow_pos, or_shifted, shl_whole, shr_below, mul-add-lt, mod_below}
use Rattle.v_meaning.specs.Views.{with_bits}

-- two words fit in the sum of their widths
pub beside_below : (a b i j : ℕ) → a < 2 ^ i → b < 2 ^ j → a * 2 ^ j + b < 2 ^ (i + j)
beside_below a b i j f g = subst (λ n. a * 2 ^ j + b < n) (sym (pow-add 2 j i) ∙ ap (λ k. 2 ^ k) (add_comm j i)) (mul-add-lt a (2 ^ j) b (2 ^ i) f g)

-- what is shifted in a `u128` and met with lower bits
pub beside_or : (a b i j : ℕ) → a < 2 ^ i → b < 2 ^ j → i + j ≤ 128 → bit_or (a * 2 ^ j % 2 ^ 128) b ≡ a * 2 ^ j + b
beside_or a b i j f g h = ap (λ n. bit_or n b) (shl_whole a i j 128 f h) ∙ or_shifted a j b g

-- what is left of a word above some of its bits
pub high_part : (word k whole : ℕ) → k ≤ whole → word < 2 ^ whole → word / 2 ^ k < 2 ^ (whole - k)
high_part word k whole h f = let e : whole ≡ (whole - k) + k = omega arith in shr_below word (whole - k) k (subst (λ n. word < 2 ^ n) e f)

-- other bits leave the word in its width
pub with_bits_below : (low width value word whole : ℕ) → low + width ≤ whole → value < 2 ^ width → word < 2 ^ whole → with_bits low width value word < 2 ^ whole
with_bits_below low width value word whole h f g =
    let high : word / 2 ^ (low + width) < 2 ^ (whole - (low + width)) = high_part word (low + width) whole h g in
    let below : value * 2 ^ low + word % 2 ^ low < 2 ^ (width + low) = beside_below value (word % 2 ^ low) width low f (mod_below word (2 ^ low) (pow_pos low)) in
    let same : width + low ≡ low + width = omega arith in
    let all : (word / 2 ^ (low + width)) * 2 ^ (low + width) + (value * 2 ^ low + word % 2 ^ low) < 2 ^ ((whole - (low + width)) + (low + width)) =
    beside_below (word / 2 ^ (low + width)) (value * 2 ^ low + word % 2 ^ low) (whole - (low + width)) (low + width) high (subst (λ k. value * 2 ^ low + word % 2 ^ low < 2 ^ k) same below) in
    let e : (whole - (low + width)) + (low + width) ≡ whole = omega arith in
    omega (arith, subst (λ k. (word / 2 ^ (low + width)) * 2 ^ (low + width) + (value * 2 ^ low + word % 2 ^ low) < 2 ^ k) e all)
