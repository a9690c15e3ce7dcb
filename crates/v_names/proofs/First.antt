-- The first element that passes a test, in a list with one more.
use Rattle.std.proofs.Common.{◌≡◌, refl, sym, ap, ◌∙◌, ℕ, suc, ◌+◌, List, [], ◌∷◌, ◌++◌, length, Bool, true, false, Option, None, Some, arith}
use Rattle.std.specs.Prelude.{if◌then◌else◌, slice_get, find, ◌==◌, bytes_eq}
use Rattle.v_meaning.specs.declared.names.Entry.{Entry}
use Rattle.v_meaning.specs.Names.{entry_or, entry_of}
use Rattle.v_meaning.specs.Expressions.{number_of_place}
use Rattle.v_names.specs.Numbers.{later, first_where}

abbrev pub or_else : Option ℕ → Option ℕ → Option ℕ
or_else None more = more
or_else (Some n) more = Some n

push_case : (b : Bool) (r : Option ℕ) (c : Bool) (n : ℕ) →
    (if b then Some 0 else later (or_else r (if c then Some n else None))) ≡ or_else (if b then Some 0 else later r) (if c then Some (suc n) else None)
push_case true r c n = refl
push_case false (Some k) c n = refl
push_case false None true n = refl
push_case false None false n = refl

pub first_push : {A : Type 0} (test : A → Bool) (xs : List A) (x : A) →
    first_where test (xs ++ x ∷ []) ≡ or_else (first_where test xs) (if test x then Some (length xs) else None)
first_push test [] x = refl
first_push test (y ∷ ys) x =
    ap (λ (r : Option ℕ). if test y then Some 0 else later r) (first_push test ys x) ∙ push_case (test y) (first_where test ys) (test x) (length ys)

-- what stands at a number, where there is one
abbrev pub at_number : {A : Type 0} → List A → Option ℕ → Option A
at_number xs None = None
at_number xs (Some n) = slice_get xs n

find_case : {A : Type 0} (b : Bool) (x : A) (xs : List A) (r : Option ℕ) → (if b then Some x else at_number xs r) ≡ at_number (x ∷ xs) (if b then Some 0 else later r)
find_case true x xs r = refl
find_case false x xs None = refl
find_case false x xs (Some n) = refl

pub found_at : {A : Type 0} (test : A → Bool) (xs : List A) → find test xs ≡ at_number xs (first_where test xs)
found_at test [] = refl
found_at test (x ∷ xs) = ap (λ r. if test x then Some x else r) (found_at test xs) ∙ find_case (test x) x xs (first_where test xs)

pub nothing_behind : {A : Type 0} (xs : List A) → slice_get xs (length xs) ≡ None
nothing_behind [] = refl
nothing_behind (x ∷ xs) = nothing_behind xs

abbrev pub number_or : Option ℕ → ℕ → ℕ
number_or None n = n
number_or (Some k) n = k

place_case : (b : Bool) (r : Option ℕ) (n : ℕ) → (if b then 0 else 1 + number_or r n) ≡ number_or (if b then Some 0 else later r) (suc n)
place_case true r n = refl
place_case false None n = let e : 1 + n ≡ suc n = omega arith in e
place_case false (Some k) n = let e : 1 + k ≡ suc k = omega arith in e

pub place_is : (places : List ℕ) (place : ℕ) → number_of_place places place ≡ number_or (first_where (λ (other : ℕ). other == place) places) (length places)
place_is [] place = refl
place_is (p ∷ ps) place = ap (λ n. if p == place then 0 else 1 + n) (place_is ps place) ∙ place_case (p == place) (first_where (λ (other : ℕ). other == place) ps) (length ps)

-- ---- what a look-up gives, of the elements that a view shows

pub numbered : (inside names : List Entry) (name : List ℕ) (r : Option ℕ) → inside ≡ names → r ≡ first_where (λ (e : Entry). bytes_eq e.name name) inside →
    entry_or (at_number names r) ≡ entry_of names name
numbered inside names name r view p =
    ap (λ o. entry_or (at_number names o)) (p ∙ ap (first_where (λ (e : Entry). bytes_eq e.name name)) view)
    ∙ ap entry_or (sym (found_at (λ (e : Entry). bytes_eq e.name name) names))

pub unnumbered : (inside names : List Entry) (name : List ℕ) (n : ℕ) → inside ≡ names → None ≡ first_where (λ (e : Entry). bytes_eq e.name name) inside → n ≡ length inside →
    entry_or (slice_get names n) ≡ entry_of names name
unnumbered inside names name n view p count =
    ap (λ m. entry_or (slice_get names m)) (count ∙ ap length view) ∙ ap entry_or (nothing_behind names) ∙ numbered inside names name None view p

pub placed : (inside places : List ℕ) (place : ℕ) (r : Option ℕ) → inside ≡ places → r ≡ first_where (λ (other : ℕ). other == place) inside →
    number_or r (length places) ≡ number_of_place places place
placed inside places place r view p =
    ap (λ o. number_or o (length places)) (p ∙ ap (first_where (λ (other : ℕ). other == place)) view) ∙ sym (place_is places place)
