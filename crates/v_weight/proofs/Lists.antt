-- The sums of loops, and what each element of a list passes that all pass.
use Rattle.std.proofs.Common.{◌≡◌, ◌<◌, ◌≤◌, ◌+◌, ℕ, zero, suc, List, [], ◌∷◌, map, length, drop, get_or, drop-cons, add-one, Bool, true, false, refl, sym, ap, ◌∙◌}
use Rattle.std.specs.Prelude.{sum, ◌&&◌, not}
use Rattle.std.specs.List.{list_all}
use Rattle.std.proofs.Math.Nat.{add_assoc, add-zero}
use Rattle.std.proofs.lemmas.List.{drop_all}
use Rattle.std.proofs.lemmas.List.Sums.{sum-map, sum_by-cons}
use Rattle.v_weight.specs.Saturated.{Same}
use Rattle.v_weight.proofs.Saturating.{same_refl, same_path, same_trans, same_sum}

pub first_of : (a b : Bool) → (a && b) ≡ true → a ≡ true
first_of true b h = refl
first_of false b h = absurd (cc h)

pub second_of : (a b : Bool) → (a && b) ≡ true → b ≡ true
second_of true b h = h
second_of false b h = absurd (cc h)

pub not_true : (b : Bool) → not b ≡ true → b ≡ false
not_true true h = absurd (cc h)
not_true false h = refl

pub next_is : {X : Type 0} (xs : List X) (i : ℕ) (x : X) → i < length xs → x ≡ get_or xs i x → drop i xs ≡ x ∷ drop (i + 1) xs
next_is xs i x h is = rw (add-one i) (drop-cons xs i x h ∙ ap (λ y. y ∷ drop (suc i) xs) (sym is))

drop_passes : {X : Type 0} (test : X → Bool) (i : ℕ) (xs : List X) → list_all test xs ≡ true → list_all test (drop i xs) ≡ true
drop_passes test zero xs h = h
drop_passes test (suc i) [] h = h
drop_passes test (suc i) (x ∷ xs) h = drop_passes test i xs (second_of (test x) (list_all test xs) h)

-- each element of a list passes where all do
pub passes : {X : Type 0} (test : X → Bool) (xs : List X) (i : ℕ) (x : X) → i < length xs → x ≡ get_or xs i x → list_all test xs ≡ true → test x ≡ true
passes {X = X} test xs i x h is all =
    first_of (test x) (list_all test (drop (i + 1) xs)) (sym (ap (λ (ys : List X). list_all test ys) (next_is xs i x h is)) ∙ drop_passes test i xs all)

-- ---- sums

pub sum_cons : {X : Type 0} (f : X → ℕ) (x : X) (xs : List X) → sum (map f (x ∷ xs)) ≡ f x + sum (map f xs)
sum_cons f x xs = sum-map f (x ∷ xs) ∙ sum_by-cons f x xs ∙ ap (λ n. f x + n) (sym (sum-map f xs))

-- What is added up and the elements from this one on make what all make.
pub record Sums {X : Type 0} (f : X → ℕ) (xs : List X) (i total : ℕ) : Type 0 where
  pub same : Same (total + sum (map f (drop i xs))) (sum (map f xs))

-- a number is added
abbrev pub Adds : ℕ → ℕ → ℕ → Type 0
Adds total one more = (m n : ℕ) → Same total m → Same one n → Same more (m + n)

pub sums_next : {X : Type 0} (f : X → ℕ) (xs : List X) (i : ℕ) (x : X) (total one more : ℕ) → i < length xs → x ≡ get_or xs i x → Adds total one more → Same one (f x) →
    Sums f xs i total → Sums f xs (i + 1) more
sums_next {X = X} f xs i x total one more h is adds p s = record {
  same = same_trans _ _ _ (same_sum _ _ _ _ (adds total (f x) (same_refl total) p) (same_refl (sum (map f (drop (i + 1) xs)))))
      (same_trans _ _ _ (same_path _ _ (add_assoc total (f x) (sum (map f (drop (i + 1) xs)))
      ∙ ap (λ n. total + n) (sym (sum_cons f x (drop (i + 1) xs)) ∙ sym (ap (λ (ys : List X). sum (map f ys)) (next_is xs i x h is))))) s.same);
}

pub sums_end : {X : Type 0} (f : X → ℕ) (xs : List X) (i total : ℕ) → length xs ≤ i → Sums f xs i total → Same total (sum (map f xs))
sums_end {X = X} f xs i total h s =
    same_trans _ _ _ (same_path _ _ (sym (ap (λ (ys : List X). total + sum (map f ys)) (drop_all i xs h) ∙ add-zero total))) s.same
