-- The values of constants, of inverses and of nodes themselves.
use Rattle.std.proofs.Common.{◌≡◌, ◌≢◌, ◌==◌, ℕ, ◌+◌, ◌-◌, ◌/◌, ◌%◌, List, Bool, true, false, refl, sym, ap, ◌∙◌, arith}
use Rattle.std.proofs.lemmas.Bool.Decides.{nat_tests}
use mathlib.Core.Bool.{xor, not}
use Rattle.lz_circuit.specs.Values.{value_at}
use Rattle.g_net.specs.Run.{literal_value}
use Rattle.g_rules.specs.Literals.{is_inverse, inverse_of, inverted_of, even_of}
use Rattle.g_rules.proofs.Bits.{by_test, false_xor, true_xor, not_xor, sign_apart}

pub tested : (m n : ℕ) → (m == n) ≡ true → m ≡ n
tested m n e = grind (arith, nat_tests)

pub not_tested : (m n : ℕ) → (m == n) ≡ false → m ≢ n
not_tested m n e = grind (arith, nat_tests)

is_odd : (n : ℕ) → n % 2 ≡ 1 → is_inverse n ≡ true
is_odd n e = rw e refl

is_even : (n : ℕ) → n % 2 ≡ 0 → is_inverse n ≡ false
is_even n e = rw e refl

-- a literal and its inverse are of one node
pub node_of_inverse : (l : ℕ) → inverse_of l / 2 ≡ l / 2
node_of_inverse l = by_test (l % 2 == 0) (λ k. k / 2 ≡ l / 2) (l + 1) (l - 1)
    (λ e. let even : l % 2 ≡ 0 = tested _ _ e in omega arith)
    (λ e. let odd : l % 2 ≢ 0 = not_tested _ _ e in omega arith)

sign_of_inverse : (l : ℕ) → is_inverse (inverse_of l) ≡ not (is_inverse l)
sign_of_inverse l = by_test (l % 2 == 0) (λ k. is_inverse k ≡ not (is_inverse l)) (l + 1) (l - 1)
    (λ e. let even : l % 2 ≡ 0 = tested _ _ e in rw (is_even l even) (is_odd (l + 1) (omega arith)))
    (λ e. let odd : l % 2 ≢ 0 = not_tested _ _ e in rw (is_odd l (omega arith)) (is_even (l - 1) (omega arith)))

pub zero_value : (values : List Bool) → value_at values 0 ≡ false → literal_value values 0 ≡ false
zero_value values z = ap (xor false) z ∙ false_xor false

pub one_value : (values : List Bool) → value_at values 0 ≡ false → literal_value values 1 ≡ true
one_value values z = ap (xor true) z ∙ true_xor false

pub inverse_value : (values : List Bool) (l : ℕ) → literal_value values (inverse_of l) ≡ not (literal_value values l)
inverse_value values l =
    ap (λ n. xor (is_inverse (inverse_of l)) (value_at values n)) (node_of_inverse l)
    ∙ not_xor (is_inverse (inverse_of l)) (is_inverse l) (value_at values (l / 2)) (sign_of_inverse l)

pub inverted_value : (values : List Bool) (l : ℕ) (invert : Bool) → literal_value values (inverted_of l invert) ≡ xor invert (literal_value values l)
inverted_value values l true = inverse_value values l ∙ sym (true_xor (literal_value values l))
inverted_value values l false = sym (false_xor (literal_value values l))

pub node_of_inverted : (l : ℕ) (invert : Bool) → inverted_of l invert / 2 ≡ l / 2
node_of_inverted l true = node_of_inverse l
node_of_inverted l false = refl

pub node_of_even : (l : ℕ) → even_of l / 2 ≡ l / 2
node_of_even l = omega arith

pub even_value : (values : List Bool) (l : ℕ) → literal_value values (even_of l) ≡ value_at values (l / 2)
even_value values l =
    ap (λ n. xor (is_inverse (even_of l)) (value_at values n)) (node_of_even l)
    ∙ ap (λ b. xor b (value_at values (l / 2))) (is_even (even_of l) (omega arith))
    ∙ false_xor (value_at values (l / 2))

equal_signs : (s : Bool) → false ≡ xor s s
unfolding xor
equal_signs true = refl
equal_signs false = refl

signs_true_false : true ≡ xor true false
unfolding xor
signs_true_false = refl

signs_false_true : true ≡ xor false true
unfolding xor
signs_false_true = refl

other_sign : (a x : ℕ) (t : Bool) → (a % 2 == 1) ≡ t → a / 2 ≡ x / 2 → a ≢ x → true ≡ xor (is_inverse a) (is_inverse x)
other_sign a x true e h apart = let odd : a % 2 ≡ 1 = tested _ _ e in rw (e, is_even x (omega arith)) signs_true_false
other_sign a x false e h apart = let even : a % 2 ≢ 1 = not_tested _ _ e in rw (e, is_odd x (omega arith)) signs_false_true

-- literals of one node are equal exactly where their signs are
differ_by_sign : (a x : ℕ) (t : Bool) → (a == x) ≡ t → a / 2 ≡ x / 2 → not t ≡ xor (is_inverse a) (is_inverse x)
unfolding xor
differ_by_sign a x true e h = let same : a ≡ x = tested a x e in rw same (equal_signs (is_inverse x))
differ_by_sign a x false e h = let apart : a ≢ x = not_tested a x e in other_sign a x (a % 2 == 1) refl h apart

-- the values of two literals of one node differ where the literals do
pub same_node : (values : List Bool) (a x : ℕ) → a / 2 ≡ x / 2 → literal_value values a ≡ xor (not (a == x)) (literal_value values x)
same_node values a x h =
    ap (λ n. xor (is_inverse a) (value_at values n)) h
    ∙ sign_apart (is_inverse a) (is_inverse x) (value_at values (x / 2))
    ∙ ap (λ d. xor d (literal_value values x)) (sym (differ_by_sign a x (a == x) refl h))
