-- Numbers that wrap, and numbers that stop at a limit, while their digits are read.
use Rattle.std.proofs.Common.{◌≡◌, ◌≤◌, ◌<◌, ◌+◌, ◌*◌, ◌%◌, ℕ, List, [], ◌∷◌, ◌++◌, min, arith, ap, sym, refl, ◌∙◌, le_trans, ◌⊎◌, inl, inr, le_refl}
use Rattle.std.proofs.lemmas.Nat.{mul-mod_first}
use Rattle.std.proofs.lemmas.Bool.{cases_lt}
use Rattle.std.proofs.Math.Nat.{mod-add-mod}
use Rattle.v_meaning.specs.Literals.{number_behind, digit_value}

-- a product that wrapped, and a sum that wraps
pub wrapped_twice : (b r d m : ℕ) → (b * r % m + d) % m ≡ (b * r + d) % m
wrapped_twice b r d m = mod-add-mod (b * r) m d

pub behind_append : (b r : ℕ) (f : ℕ → ℕ) (xs ys : List ℕ) → number_behind b r f (xs ++ ys) ≡ number_behind (number_behind b r f xs) r f ys
behind_append b r f [] ys = refl
behind_append b r f (x ∷ xs) ys = behind_append (b * r + f x) r f xs ys

-- numbers that are one where they wrap stay so behind more digits
pub wrap_alike : (a b r m : ℕ) (f : ℕ → ℕ) (ds : List ℕ) → a % m ≡ b % m → number_behind a r f ds % m ≡ number_behind b r f ds % m
wrap_alike a b r m f [] e = e
wrap_alike a b r m f (d ∷ ds) e = wrap_alike (a * r + f d) (b * r + f d) r m f ds (step a ∙ ap (λ n. (n * r % m + f d) % m) e ∙ sym (step b))
  where
    step : (n : ℕ) → (n * r + f d) % m ≡ (n % m * r % m + f d) % m
    step n = sym (wrapped_twice n r (f d) m) ∙ ap (λ k. (k + f d) % m) (sym (mul-mod_first n r m))

pub at_least : (b : ℕ) (ds : List ℕ) → b ≤ number_behind b 10 digit_value ds
at_least b [] = le_refl b
at_least b (d ∷ ds) = le_trans (omega arith) (at_least (b * 10 + digit_value d) ds)

-- a number that stops at a limit reaches it where the number does
pub capped : (b limit : ℕ) (ds : List ℕ) → min (number_behind (min b limit) 10 digit_value ds) limit ≡ min (number_behind b 10 digit_value ds) limit
capped b limit ds = by_order (cases_lt limit b)
  where
    by_order : (limit < b) ⊎ (b ≤ limit) → min (number_behind (min b limit) 10 digit_value ds) limit ≡ min (number_behind b 10 digit_value ds) limit
    by_order (inl h) =
        let e : min b limit ≡ limit = omega arith in
        ap (λ n. min (number_behind n 10 digit_value ds) limit) e ∙ omega (arith, at_least limit ds, at_least b ds)
    by_order (inr h) = let e : min b limit ≡ b = omega arith in ap (λ n. min (number_behind n 10 digit_value ds) limit) e
