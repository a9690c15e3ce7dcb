-- One element of a list, and those from it on.
use Rattle.std.proofs.Common.{◌≡◌, ◌<◌, ◌+◌, refl, sym, ap, ◌∙◌, arith, ℕ, zero, suc, length, get_or, drop, drop-cons, add-one, List, [], ◌∷◌, Bool, true, false, ◌&&◌}
use Rattle.std.specs.List.{list_all}

pub first_of : (a b : Bool) → (a && b) ≡ true → a ≡ true
first_of true b h = refl
first_of false b h = absurd (cc h)

pub second_of : (a b : Bool) → (a && b) ≡ true → b ≡ true
second_of true b h = h
second_of false b h = absurd (cc h)

pub both_of : (a b : Bool) → a ≡ true → b ≡ true → (a && b) ≡ true
both_of a b h k = rw (h, k) refl

-- what is left of a list is an element and what is left behind it
pub next_is : {X : Type 0} (xs : List X) (i : ℕ) (x : X) → i < length xs → x ≡ get_or xs i x → drop i xs ≡ x ∷ drop (i + 1) xs
next_is xs i x h is = rw (add-one i) (drop-cons xs i x h ∙ ap (λ y. y ∷ drop (suc i) xs) (sym is))

pub one_of : {X : Type 0} (test : X → Bool) (xs : List X) (i : ℕ) (x : X) → i < length xs → x ≡ get_or xs i x → list_all test xs ≡ true → test x ≡ true
one_of test [] i x h is all = absurd (omega arith)
one_of test (y ∷ ys) zero x h is all = ap test is ∙ first_of (test y) (list_all test ys) all
one_of test (y ∷ ys) (suc i) x h is all = one_of test ys i x (omega arith) is (second_of (test y) (list_all test ys) all)

pub one_at : {X : Type 0} (test : X → Bool) (xs : List X) (i : ℕ) (d : X) → i < length xs → list_all test xs ≡ true → test (get_or xs i d) ≡ true
one_at test [] i d h all = absurd (omega arith)
one_at test (y ∷ ys) zero d h all = first_of (test y) (list_all test ys) all
one_at test (y ∷ ys) (suc i) d h all = one_at test ys i d (omega arith) (second_of (test y) (list_all test ys) all)

pub next_at : {X : Type 0} (xs : List X) (i : ℕ) (d : X) → i < length xs → drop i xs ≡ get_or xs i d ∷ drop (i + 1) xs
next_at xs i d h = rw (add-one i) (drop-cons xs i d h)
