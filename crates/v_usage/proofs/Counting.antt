-- Numbers of bits that are counted up to 129 are the numbers of bits, cut at 129.
use Rattle.std.proofs.Common.{◌≡◌, ◌≤◌, ◌<◌, ◌+◌, ◌*◌, ℕ, zero, suc, List, [], ◌∷◌, Bool, true, false, Option, None, Some, refl, sym, ap, ◌∙◌, arith, min, ◌⊎◌, inl, inr, length, drop, drop-cons, get_or, add-one}
use Rattle.std.proofs.Math.Nat.{mul_comm, le-mul_of_pos_right}
use Rattle.std.specs.Prelude.{max, ◌&&◌, if◌then◌else◌}
use Rattle.std.proofs.lemmas.Bool.{cases_lt}
use Rattle.std.proofs.lemmas.List.{drop_all}
use Rattle.v_meaning.specs.Senses.{Class, Shared, Compared, Shifted, Logical, is_through}
use Rattle.v_syntax.specs.declared.expr.UnaryOperator.{UnaryOperator}
use Rattle.v_meaning.specs.Proper.{bits_if}
use Rattle.v_usage.specs.Bits.{up_to_129, mapped, both, width_before, class_width, made_behind, counted_behind}

-- whether it is all one where numbers are cut at 129
abbrev pub IsCounted : (ℕ → ℕ → ℕ) → Type 0
IsCounted f = (m n : ℕ) → min (f (min m 129) (min n 129)) 129 ≡ min (f m n) 129

pub sum_counted : IsCounted ◌+◌
sum_counted m n = omega arith

pub max_counted : IsCounted max
max_counted m n = omega arith

pub class_counted : (class : Class) → IsCounted (class_width class)
class_counted Shared m n = max_counted m n
class_counted Compared m n = refl
class_counted Shifted m n = omega arith
class_counted Logical m n = refl

-- of the second factor of a product
factor_counted : (m n : ℕ) → min (m * min n 129) 129 ≡ min (m * n) 129
factor_counted m n = by_order m (cases_lt n 130)
  where
    by_order : (m : ℕ) → (n < 130) ⊎ (130 ≤ n) → min (m * min n 129) 129 ≡ min (m * n) 129
    by_order m (inl h) = let e : min n 129 ≡ n = omega arith in ap (λ k. min (m * k) 129) e
    by_order zero (inr h) = omega arith
    by_order (suc m) (inr h) =
        let e : min n 129 ≡ 129 = omega arith in
        let pos : 0 < suc m = omega arith in
        ap (λ k. min (suc m * k) 129) e ∙ omega (arith, h, le-mul_of_pos_right n pos, mul_comm n (suc m))

pub times_counted : (x y : Option ℕ) → up_to_129 (both (λ m n. m * n) x (up_to_129 y)) ≡ up_to_129 (both (λ m n. m * n) x y)
times_counted None None = refl
times_counted None (Some n) = refl
times_counted (Some m) None = refl
times_counted (Some m) (Some n) = ap (λ (k : ℕ). Some k) (factor_counted m n)

through_counted : (b : Bool) (n : ℕ) → (if b then min n 129 else 1) ≡ min (if b then n else 1) 129
through_counted true n = refl
through_counted false n = refl

pub before_counted : (op : UnaryOperator) (x : Option ℕ) → mapped (width_before op) (up_to_129 x) ≡ up_to_129 (mapped (width_before op) x)
before_counted op None = refl
before_counted op (Some n) = ap (λ (k : ℕ). Some k) (through_counted (is_through op) n)

pub both_counted : (f : ℕ → ℕ → ℕ) → IsCounted f → (x y : Option ℕ) → up_to_129 (both f (up_to_129 x) (up_to_129 y)) ≡ up_to_129 (both f x y)
both_counted f h None None = refl
both_counted f h None (Some n) = refl
both_counted f h (Some m) None = refl
both_counted f h (Some m) (Some n) = ap (λ (k : ℕ). Some k) (h m n)

pub both_if : (f : ℕ → ℕ → ℕ) (d e : Bool) (m n : ℕ) → both f (bits_if d m) (bits_if e n) ≡ bits_if (d && e) (f m n)
both_if f true true m n = refl
both_if f true false m n = refl
both_if f false true m n = refl
both_if f false false m n = refl

-- ---- lists

pub all_counted : {A : Type 0} (f : A → ℕ → ℕ → ℕ) (bits : A → Option ℕ) → ((x : A) → IsCounted (f x)) → (all : Option ℕ) (xs : List A) →
    counted_behind f bits (up_to_129 all) xs ≡ up_to_129 (made_behind f bits all xs)
all_counted f bits h all [] = refl
all_counted f bits h all (x ∷ xs) =
    ap (λ (o : Option ℕ). counted_behind f bits o xs) (both_counted (f x) (h x) all (bits x)) ∙ all_counted f bits h (both (f x) all (bits x)) xs

-- What is counted and the elements from this one on make what was counted at first and all make.
pub record Counts {A : Type 0} (f : A → ℕ → ℕ → ℕ) (bits : A → Option ℕ) (xs : List A) (i : ℕ) (begun now : Option ℕ) : Type 0 where
  pub same : counted_behind f bits now (drop i xs) ≡ counted_behind f bits begun xs

pub next_is : {A : Type 0} (xs : List A) (i : ℕ) (x other : A) → i < length xs → x ≡ get_or xs i other → drop i xs ≡ x ∷ drop (i + 1) xs
next_is xs i x other h is = rw (add-one i) (drop-cons xs i other h ∙ ap (λ y. y ∷ drop (suc i) xs) (sym is))

pub counts_next : {A : Type 0} (f : A → ℕ → ℕ → ℕ) (bits : A → Option ℕ) (xs : List A) (i : ℕ) (x : A) (begun now one more : Option ℕ) → i < length xs → x ≡ get_or xs i x →
    one ≡ up_to_129 (bits x) → more ≡ up_to_129 (both (f x) now one) → Counts f bits xs i begun now → Counts f bits xs (i + 1) begun more
counts_next {A = A} f bits xs i x begun now one more h is p q c = record {
  same = ap (λ (o : Option ℕ). counted_behind f bits o (drop (i + 1) xs)) (q ∙ ap (λ (o : Option ℕ). up_to_129 (both (f x) now o)) p)
      ∙ sym (ap (λ (ys : List A). counted_behind f bits now ys) (next_is xs i x x h is)) ∙ c.same;
}

pub counts_end : {A : Type 0} (f : A → ℕ → ℕ → ℕ) (bits : A → Option ℕ) (xs : List A) (i : ℕ) (begun now : Option ℕ) → length xs ≤ i → Counts f bits xs i begun now →
    now ≡ counted_behind f bits begun xs
counts_end {A = A} f bits xs i begun now h c = sym (ap (λ (ys : List A). counted_behind f bits now ys) (drop_all i xs h)) ∙ c.same
