-- Which nodes are known: the constant and those of a list.
use Rattle.std.proofs.Common.{◌≡◌, ◌==◌, ℕ, ◌/◌, List, [], ◌∷◌, ◌++◌, Bool, true, false, ◌&&◌, ◌||◌, refl, ap, ◌∙◌, eq-eqb}
use Rattle.std.proofs.Math.Bool.{or-true}
use Rattle.g_rules.specs.Keeps.{is_known, are_known}
use Rattle.g_rules.proofs.Literals.{tested}

pub constant_known : (nodes : List ℕ) → is_known nodes 0 ≡ true
constant_known [] = refl
constant_known (n ∷ nodes) = ap (λ t. (0 == n) || t) (constant_known nodes) ∙ or-true (0 == n)

pub head_known : (nodes : List ℕ) (m n : ℕ) → m ≡ n → is_known (n ∷ nodes) m ≡ true
head_known nodes m n e = ap (λ t. t || is_known nodes m) (eq-eqb m n e)

pub tail_known : (nodes : List ℕ) (m n : ℕ) → is_known nodes m ≡ true → is_known (n ∷ nodes) m ≡ true
tail_known nodes m n e = ap (λ t. (m == n) || t) e ∙ or-true (m == n)

-- the nodes of two literals
abbrev pub both : ℕ → ℕ → List ℕ
both a b = a / 2 ∷ b / 2 ∷ []

pub first_known : (a b : ℕ) → is_known (both a b) (a / 2) ≡ true
first_known a b = head_known (b / 2 ∷ []) (a / 2) (a / 2) refl

pub second_known : (a b : ℕ) → is_known (both a b) (b / 2) ≡ true
second_known a b = tail_known (b / 2 ∷ []) (b / 2) (a / 2) (head_known [] (b / 2) (b / 2) refl)

or_known : (t : Bool) (a b : Bool) → (a ≡ true → b ≡ true) → (t || a) ≡ true → (t || b) ≡ true
or_known true a b f e = refl
or_known false a b f e = f e

pub known_left : (xs ys : List ℕ) (m : ℕ) → is_known xs m ≡ true → is_known (xs ++ ys) m ≡ true
known_left [] ys m e = let zero_is : m ≡ 0 = tested m 0 e in rw zero_is (constant_known ys)
known_left (x ∷ xs) ys m e = or_known (m == x) (is_known xs m) (is_known (xs ++ ys) m) (known_left xs ys m) e

pub known_right : (xs ys : List ℕ) (m : ℕ) → is_known ys m ≡ true → is_known (xs ++ ys) m ≡ true
known_right [] ys m e = e
known_right (x ∷ xs) ys m e = tail_known (xs ++ ys) m x (known_right xs ys m e)

pub one_known : (nodes : List ℕ) (l : ℕ) → is_known nodes (l / 2) ≡ true → are_known nodes (l ∷ []) ≡ true
one_known nodes l e = ap (λ t. t && true) e

pub two_known : (nodes : List ℕ) (k l : ℕ) → is_known nodes (k / 2) ≡ true → is_known nodes (l / 2) ≡ true → are_known nodes (k ∷ l ∷ []) ≡ true
two_known nodes k l e f = ap (λ t. t && are_known nodes (l ∷ [])) e ∙ one_known nodes l f

-- a literal of the same node
pub same_known : (nodes : List ℕ) (k l : ℕ) → k / 2 ≡ l / 2 → is_known nodes (l / 2) ≡ true → is_known nodes (k / 2) ≡ true
same_known nodes k l e h = ap (is_known nodes) e ∙ h
