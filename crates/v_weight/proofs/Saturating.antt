-- Sums, products and the greater of numbers that stop at the greatest one stop where those of the true numbers do.
use Rattle.std.proofs.Common.{◌≡◌, ◌≤◌, ◌<◌, ◌+◌, ◌*◌, ◌-◌, ℕ, zero, suc, refl, sym, ap, ◌∙◌, arith, min, max, ◌⊎◌, inl, inr}
use Rattle.std.specs.Prelude.{◌^◌}
use Rattle.std.proofs.Math.Nat.{mul_comm, le-mul_of_pos_right}
use Rattle.std.proofs.lemmas.Bool.{cases_lt}
use Rattle.v_weight.specs.Saturated.{Same}

pub same_refl : (n : ℕ) → Same n n
same_refl n = record { stops = refl }

pub same_path : (m n : ℕ) → m ≡ n → Same m n
same_path m n is = record { stops = ap (λ k. min k (2 ^ 64 - 1)) is }

pub same_sym : (m n : ℕ) → Same m n → Same n m
same_sym m n h = record { stops = sym h.stops }

pub same_trans : (k m n : ℕ) → Same k m → Same m n → Same k n
same_trans k m n g h = record { stops = g.stops ∙ h.stops }

-- ---- at any greatest number

twice : (top n : ℕ) → min (min n top) top ≡ min n top
twice top n = omega arith

sum_stops : (top x y m n : ℕ) → min x top ≡ min m top → min y top ≡ min n top → min (x + y) top ≡ min (m + n) top
sum_stops top x y m n p q = omega arith

max_stops : (top x y m n : ℕ) → min x top ≡ min m top → min y top ≡ min n top → min (max x y) top ≡ min (max m n) top
max_stops top x y m n p q = omega arith

-- of the second factor of a product
factor_stops : (top m n : ℕ) → min (m * min n top) top ≡ min (m * n) top
factor_stops top m n = by_order m (cases_lt n (suc top))
  where
    by_order : (m : ℕ) → (n < suc top) ⊎ (suc top ≤ n) → min (m * min n top) top ≡ min (m * n) top
    by_order m (inl h) = let e : min n top ≡ n = omega arith in ap (λ k. min (m * k) top) e
    by_order zero (inr h) = omega arith
    by_order (suc m) (inr h) =
        let e : min n top ≡ top = omega arith in
        let pos : 0 < suc m = omega arith in
        ap (λ k. min (suc m * k) top) e ∙ omega (arith, h, le-mul_of_pos_right n pos, mul_comm n (suc m), le-mul_of_pos_right top pos, mul_comm top (suc m))

product_stops : (top k m n : ℕ) → min m top ≡ min n top → min (k * m) top ≡ min (k * n) top
product_stops top k m n h = sym (factor_stops top k m) ∙ ap (λ z. min (k * z) top) h ∙ factor_stops top k n

-- ---- laws

pub same_stopped : (r n : ℕ) → r ≡ min n (2 ^ 64 - 1) → Same r n
same_stopped r n is = record { stops = ap (λ k. min k (2 ^ 64 - 1)) is ∙ twice (2 ^ 64 - 1) n }

pub same_sum : (x y m n : ℕ) → Same x m → Same y n → Same (x + y) (m + n)
same_sum x y m n p q = record { stops = sum_stops (2 ^ 64 - 1) x y m n p.stops q.stops }

pub same_max : (x y m n : ℕ) → Same x m → Same y n → Same (max x y) (max m n)
same_max x y m n p q = record { stops = max_stops (2 ^ 64 - 1) x y m n p.stops q.stops }

pub same_product : (x y m n : ℕ) → Same x m → Same y n → Same (x * y) (m * n)
same_product x y m n p q = record {
  stops = product_stops (2 ^ 64 - 1) x y n q.stops ∙ ap (λ k. min k (2 ^ 64 - 1)) (mul_comm x n) ∙ product_stops (2 ^ 64 - 1) n x m p.stops
      ∙ ap (λ k. min k (2 ^ 64 - 1)) (mul_comm n m);
}
