-- When something is in a list: by position for pairs, by tests for numbers and names.
use Rattle.std.proofs.Common.{◌≡◌, ℕ, List, [], ◌∷◌, ◌++◌, Bool, true, false, refl, ap, ◌∙◌, inl, inr, ◌⊎◌}
use Rattle.std.specs.Prelude.{◌||◌, ◌==◌, bytes_eq}
use Rattle.std.specs.List.{list_any}
use Rattle.std.proofs.lemmas.Bool.{eqb-true, or_cases, or_left, or_right}
use Rattle.std.proofs.lemmas.Slice.Eq.{bytes_eq-Decides}
use Rattle.lz_base.specs.Names.{is_among}
use Rattle.v_depends.specs.Nodes.{is_in}

-- ---- tests

pub swap : (a b c : Bool) → (a || (b || c)) ≡ (b || (a || c))
swap true true c = refl
swap true false c = refl
swap false b c = refl

-- ---- names

pub bytes_same : (a b : List ℕ) → bytes_eq a b ≡ true → a ≡ b
bytes_same a b h = (bytes_eq-Decides a b).0 h

pub bytes_self : (a b : List ℕ) → a ≡ b → bytes_eq a b ≡ true
bytes_self a b h = (bytes_eq-Decides a b).1 h

pub any_out : (f : List ℕ → Bool) (xs : List (List ℕ)) → list_any f xs ≡ true → (z : List ℕ) × (is_among z xs ≡ true) × (f z ≡ true)
any_out f [] h = absurd (cc h)
any_out f (x ∷ xs) h = elim (or_cases (f x) (list_any f xs) h) [
  | inl here ↦ (x, or_left (bytes_eq x x) (is_among x xs) (bytes_self x x refl), here)
  | inr there ↦ (let r = any_out f xs there in (r.0, or_right (bytes_eq x r.0) (is_among r.0 xs) r.1, r.2))
]

pub any_in : (f : List ℕ → Bool) (xs : List (List ℕ)) (z : List ℕ) → is_among z xs ≡ true → f z ≡ true → list_any f xs ≡ true
any_in f [] z h t = absurd (cc h)
any_in f (x ∷ xs) z h t = elim (or_cases (bytes_eq x z) (is_among z xs) h) [
  | inl same ↦ or_left (f x) (list_any f xs) (ap f (bytes_same x z same) ∙ t)
  | inr there ↦ or_right (f x) (list_any f xs) (any_in f xs z there t)
]

pub among_left : (z : List ℕ) (xs ys : List (List ℕ)) → is_among z xs ≡ true → is_among z (xs ++ ys) ≡ true
among_left z [] ys h = absurd (cc h)
among_left z (x ∷ xs) ys h = elim (or_cases (bytes_eq x z) (is_among z xs) h) [
  | inl same ↦ or_left (bytes_eq x z) (is_among z (xs ++ ys)) same
  | inr there ↦ or_right (bytes_eq x z) (is_among z (xs ++ ys)) (among_left z xs ys there)
]

pub among_right : (z : List ℕ) (xs ys : List (List ℕ)) → is_among z ys ≡ true → is_among z (xs ++ ys) ≡ true
among_right z [] ys h = h
among_right z (x ∷ xs) ys h = or_right (bytes_eq x z) (is_among z (xs ++ ys)) (among_right z xs ys h)

pub among_cases : (z : List ℕ) (xs ys : List (List ℕ)) → is_among z (xs ++ ys) ≡ true → (is_among z xs ≡ true) ⊎ (is_among z ys ≡ true)
among_cases z [] ys h = inr h
among_cases z (x ∷ xs) ys h = elim (or_cases (bytes_eq x z) (is_among z (xs ++ ys)) h) [
  | inl same ↦ inl (or_left (bytes_eq x z) (is_among z xs) same)
  | inr there ↦ (elim (among_cases z xs ys there) [
    | inl front ↦ inl (or_right (bytes_eq x z) (is_among z xs) front)
    | inr behind ↦ inr behind
  ])
]

-- ---- numbers

pub in_left : (n : ℕ) (xs ys : List ℕ) → is_in n xs ≡ true → is_in n (xs ++ ys) ≡ true
in_left n [] ys h = absurd (cc h)
in_left n (x ∷ xs) ys h = elim (or_cases (x == n) (is_in n xs) h) [
  | inl same ↦ or_left (x == n) (is_in n (xs ++ ys)) same
  | inr there ↦ or_right (x == n) (is_in n (xs ++ ys)) (in_left n xs ys there)
]

pub in_right : (n : ℕ) (xs ys : List ℕ) → is_in n ys ≡ true → is_in n (xs ++ ys) ≡ true
in_right n [] ys h = h
in_right n (x ∷ xs) ys h = or_right (x == n) (is_in n (xs ++ ys)) (in_right n xs ys h)

pub in_cases : (n : ℕ) (xs ys : List ℕ) → is_in n (xs ++ ys) ≡ true → (is_in n xs ≡ true) ⊎ (is_in n ys ≡ true)
in_cases n [] ys h = inr h
in_cases n (x ∷ xs) ys h = elim (or_cases (x == n) (is_in n (xs ++ ys)) h) [
  | inl same ↦ inl (or_left (x == n) (is_in n xs) same)
  | inr there ↦ (elim (in_cases n xs ys there) [
    | inl front ↦ inl (or_right (x == n) (is_in n xs) front)
    | inr behind ↦ inr behind
  ])
]

pub in_one : (n m : ℕ) → is_in n (m ∷ []) ≡ true → m ≡ n
in_one n m h = elim (or_cases (m == n) false h) [
  | inl same ↦ eqb-true m n same
  | inr none ↦ absurd (cc none)
]

-- ---- anything

abbrev pub In : {A : Type 0} → A → List A → Type 0
In x [] = ⊥
In x (y ∷ ys) = (y ≡ x) ⊎ In x ys

pub In_left : {A : Type 0} (x : A) (xs ys : List A) → In x xs → In x (xs ++ ys)
In_left x [] ys h = absurd h
In_left x (y ∷ xs) ys (inl e) = inl e
In_left x (y ∷ xs) ys (inr h) = inr (In_left x xs ys h)

pub In_right : {A : Type 0} (x : A) (xs ys : List A) → In x ys → In x (xs ++ ys)
In_right x [] ys h = h
In_right x (y ∷ xs) ys h = inr (In_right x xs ys h)

pub In_cases : {A : Type 0} (x : A) (xs ys : List A) → In x (xs ++ ys) → In x xs ⊎ In x ys
In_cases x [] ys h = inr h
In_cases x (y ∷ xs) ys (inl e) = inl (inl e)
In_cases x (y ∷ xs) ys (inr h) = elim (In_cases x xs ys h) [
  | inl front ↦ inl (inr front)
  | inr behind ↦ inr behind
]
