-- The order of three literals does not matter to their sum, and literals of one node need no gate.
use Rattle.std.proofs.Common.{◌≡◌, ◌<◌, ◌≤◌, ◌/◌, ◌+◌, ◌*◌, ℕ, List, Bool, true, false, refl, sym, ap, ◌∙◌, arith}
use mathlib.Core.Bool.{xor}
use Rattle.g_net.specs.declared.network.Gate.TheVariants.{Carry}
use Rattle.g_net.specs.Grown.{StandsAt}
use Rattle.g_net.specs.Network.{NetworkValue, node_count}
use Rattle.g_net.specs.Run.{literal_value}
use Rattle.lz_circuit.specs.Values.{majority, value_at}
use Rattle.g_net.specs.Walk.{values_of}
use Rattle.g_rules.specs.Literals.{inverted_of, inverse_of, literal_node}
use Rattle.g_build.specs.Building.{HasValue}
use Rattle.g_build.specs.Sums.{Trio, TrioBelow, SameSum, IsSum, sum_value, majority_value}

xor_first : (a b c : Bool) → xor b (xor a c) ≡ xor a (xor b c)
unfolding xor
xor_first true true c = refl
xor_first true false true = refl
xor_first true false false = refl
xor_first false true true = refl
xor_first false true false = refl
xor_first false false c = refl

xor_swap : (b c : Bool) → xor c b ≡ xor b c
unfolding xor
xor_swap true true = refl
xor_swap true false = refl
xor_swap false true = refl
xor_swap false false = refl

majority_first : (a b c : Bool) → majority b a c ≡ majority a b c
majority_first true true c = refl
majority_first true false true = refl
majority_first true false false = refl
majority_first false true true = refl
majority_first false true false = refl
majority_first false false c = refl

majority_last : (a b c : Bool) → majority a c b ≡ majority a b c
majority_last true true true = refl
majority_last true true false = refl
majority_last true false true = refl
majority_last true false false = refl
majority_last false true true = refl
majority_last false true false = refl
majority_last false false true = refl
majority_last false false false = refl

pub same_itself : (t : Trio) → SameSum t t
same_itself t = record { sum = λ values. refl; majority = λ values. refl; below = λ count h. h }

pub same_first : (t : Trio) → SameSum t (t.1, t.0, t.2)
same_first t = record {
  sum = λ values. xor_first (literal_value values t.0) (literal_value values t.1) (literal_value values t.2);
  majority = λ values. majority_first (literal_value values t.0) (literal_value values t.1) (literal_value values t.2);
  below = λ count h. (h.1, h.0, h.2);
}

pub same_last : (t : Trio) → SameSum t (t.0, t.2, t.1)
same_last t = record {
  sum = λ values. ap (xor (literal_value values t.0)) (xor_swap (literal_value values t.1) (literal_value values t.2));
  majority = λ values. majority_last (literal_value values t.0) (literal_value values t.1) (literal_value values t.2);
  below = λ count h. (h.0, h.2, h.1);
}

pub same_through : (t u v : Trio) → SameSum t u → SameSum u v → SameSum t v
same_through t u v f g = record {
  sum = λ values. g.sum values ∙ f.sum values;
  majority = λ values. g.majority values ∙ f.majority values;
  below = λ count h. g.below count (f.below count h);
}

-- sums of bits of which two are equal, or differ
sum_equal : (a c : Bool) → c ≡ xor a (xor a c)
unfolding xor
sum_equal true true = refl
sum_equal true false = refl
sum_equal false true = refl
sum_equal false false = refl

sum_equal_last : (a b : Bool) → a ≡ xor a (xor b b)
unfolding xor
sum_equal_last true true = refl
sum_equal_last true false = refl
sum_equal_last false true = refl
sum_equal_last false false = refl

sum_apart : (b c : Bool) → xor true c ≡ xor (xor true b) (xor b c)
unfolding xor
sum_apart true true = refl
sum_apart true false = refl
sum_apart false true = refl
sum_apart false false = refl

sum_apart_last : (a c : Bool) → xor true a ≡ xor a (xor (xor true c) c)
unfolding xor
sum_apart_last true true = refl
sum_apart_last true false = refl
sum_apart_last false true = refl
sum_apart_last false false = refl

majority_equal : (a c : Bool) → a ≡ majority a a c
majority_equal true c = refl
majority_equal false c = refl

majority_equal_last : (a b : Bool) → b ≡ majority a b b
majority_equal_last true true = refl
majority_equal_last true false = refl
majority_equal_last false true = refl
majority_equal_last false false = refl

majority_apart : (b c : Bool) → c ≡ majority (xor true b) b c
unfolding xor
majority_apart true true = refl
majority_apart true false = refl
majority_apart false true = refl
majority_apart false false = refl

majority_apart_last : (a c : Bool) → a ≡ majority a (xor true c) c
unfolding xor
majority_apart_last true true = refl
majority_apart_last true false = refl
majority_apart_last false true = refl
majority_apart_last false false = refl

pub equal_first : (t : Trio) → t.0 ≡ t.1 → IsSum t (t.2, t.0)
equal_first t e = record {
  sum = λ values. sum_equal (literal_value values t.0) (literal_value values t.2) ∙ ap (λ k. xor (literal_value values t.0) (xor (literal_value values k) (literal_value values t.2))) e;
  majority = λ values. majority_equal (literal_value values t.0) (literal_value values t.2) ∙ ap (λ k. majority (literal_value values t.0) (literal_value values k) (literal_value values t.2)) e;
  below = λ count h. (h.2, h.0);
}

pub equal_last : (t : Trio) → t.1 ≡ t.2 → IsSum t (t.0, t.1)
equal_last t e = record {
  sum = λ values. sum_equal_last (literal_value values t.0) (literal_value values t.1) ∙ ap (λ k. xor (literal_value values t.0) (xor (literal_value values t.1) (literal_value values k))) e;
  majority = λ values. majority_equal_last (literal_value values t.0) (literal_value values t.1) ∙ ap (λ k. majority (literal_value values t.0) (literal_value values t.1) (literal_value values k)) e;
  below = λ count h. (h.0, h.1);
}

-- the law of inverted literals
abbrev Inverts : Type 0
Inverts = (values : List Bool) (literal : ℕ) (invert : Bool) → literal_value values (inverted_of literal invert) ≡ xor invert (literal_value values literal)

abbrev OfOneNode : Type 0
OfOneNode = (literal : ℕ) (invert : Bool) → literal_node (inverted_of literal invert) ≡ literal_node literal

opposite : Inverts → (values : List Bool) (l n k : ℕ) → n ≡ inverse_of l → k ≡ n → xor true (literal_value values l) ≡ literal_value values k
opposite inverts values l n k is e = sym (inverts values l true) ∙ ap (literal_value values) (sym is ∙ sym e)

inverse_below : OfOneNode → (count l m : ℕ) → m ≡ inverse_of l → l / 2 < count → m / 2 < count
inverse_below one count l m is h =
    let same : m / 2 ≡ l / 2 = ap (λ k. k / 2) is ∙ one l true in
    omega (arith, same, h)

pub apart_first : Inverts → OfOneNode → (t : Trio) (n m : ℕ) → n ≡ inverse_of t.1 → t.0 ≡ n → m ≡ inverse_of t.2 → IsSum t (m, t.2)
apart_first inverts one t n m is e f = record {
  sum = λ values. sym (opposite inverts values t.2 m m f refl) ∙ sum_apart (literal_value values t.1) (literal_value values t.2)
      ∙ ap (λ v. xor v (xor (literal_value values t.1) (literal_value values t.2))) (opposite inverts values t.1 n t.0 is e);
  majority = λ values. majority_apart (literal_value values t.1) (literal_value values t.2) ∙ ap (λ v. majority v (literal_value values t.1) (literal_value values t.2)) (opposite inverts values t.1 n t.0 is e);
  below = λ count h. (inverse_below one count t.2 m f h.2, h.2);
}

pub apart_last : Inverts → OfOneNode → (t : Trio) (n m : ℕ) → n ≡ inverse_of t.2 → t.1 ≡ n → m ≡ inverse_of t.0 → IsSum t (m, t.0)
apart_last inverts one t n m is e f = record {
  sum = λ values. sym (opposite inverts values t.0 m m f refl) ∙ sum_apart_last (literal_value values t.0) (literal_value values t.2)
      ∙ ap (λ v. xor (literal_value values t.0) (xor v (literal_value values t.2))) (opposite inverts values t.2 n t.1 is e);
  majority = λ values. majority_apart_last (literal_value values t.0) (literal_value values t.2) ∙ ap (λ v. majority (literal_value values t.0) v (literal_value values t.2)) (opposite inverts values t.2 n t.1 is e);
  below = λ count h. (inverse_below one count t.0 m f h.0, h.0);
}

-- the sum in a network: by two literals that are there, or by a carry gate
pub literals_have : (n : NetworkValue) (t u : Trio) (r : ℕ × ℕ) → SameSum t u → IsSum u r → TrioBelow (node_count n) t
    → HasValue n r.0 (λ values. sum_value values t) × HasValue n r.1 (λ values. majority_value values t)
literals_have n t u r same is below =
    let there = is.below (node_count n) (same.below (node_count n) below) in (
      record { there = there.0; equal = λ sources many. is.sum (values_of n sources) ∙ same.sum (values_of n sources) },
      record { there = there.1; equal = λ sources many. is.majority (values_of n sources) ∙ same.majority (values_of n sources) },
    )

pub carry_has : ((values : List Bool) (node : ℕ) → literal_value values (2 * node) ≡ value_at values node) → (m : NetworkValue) (t u : Trio) (node : ℕ) → SameSum t u
    → StandsAt m node (Carry u.0 u.1 u.2) → node + 2 ≤ node_count m → HasValue m (2 * node) (λ values. sum_value values t) × HasValue m (2 * node + 2) (λ values. majority_value values t)
carry_has even m t u node same stands within =
    let next : 2 * node + 2 ≡ 2 * (node + 1) = omega arith in (
      record {
        there = omega (arith, within);
        equal = λ sources many. even (values_of m sources) node ∙ (stands sources many).0 ∙ same.sum (values_of m sources);
      },
      record {
        there = omega (arith, within);
        equal = λ sources many. ap (literal_value (values_of m sources)) next ∙ even (values_of m sources) (node + 1) ∙ (stands sources many).1 ∙ same.majority (values_of m sources);
      },
    )
