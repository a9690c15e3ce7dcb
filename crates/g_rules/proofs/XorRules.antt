-- The plain rules for an `xor` keep its value.
use Rattle.std.proofs.Common.{◌≡◌, ◌==◌, ℕ, ◌/◌, false, nat_lt, ◌||◌, sym, ap, ◌∙◌}
use mathlib.Core.Bool.{xor}
use Rattle.g_rules.specs.declared.shapes.Rewrite.{Rewrite}
use Rattle.g_rules.specs.declared.shapes.Rewrite.TheVariants.{Keep, Literal}
use Rattle.g_rules.specs.declared.shapes.Rewrite.TheVariants as rewrite
use Rattle.g_rules.specs.declared.shapes.Shape.{Shape}
use Rattle.g_rules.specs.declared.shapes.Shape.TheVariants as shape
use Rattle.lz_circuit.specs.Values.{value_at}
use Rattle.g_net.specs.Run.{literal_value}
use Rattle.g_rules.specs.Literals.{is_inverse, inverse_of, even_of}
use Rattle.g_rules.specs.Keeps.{KeepsValue, HasZero}
use Rattle.g_rules.specs.PlainRules.{xor_constant_of, xor_same_of, xor_signs_of, xor_order_of}
use Rattle.g_rules.proofs.AndRules.{unchanged}
use Rattle.g_rules.proofs.Bits.{by_test, false_xor, true_xor, xor_comm, xor_self, not_xor_self, signs_out}
use Rattle.g_rules.proofs.Known.{both, constant_known, first_known, second_known, one_known, two_known, same_known}
use Rattle.g_rules.proofs.Literals.{tested, zero_value, one_value, inverse_value, even_value, node_of_inverse, node_of_even}

zero_first : (a b : ℕ) → a ≡ 0 → KeepsValue (shape.Xor a b) (Literal b)
zero_first a b e = record {
  value = λ values z. rw e (sym (ap (λ t. xor t (literal_value values b)) (zero_value values z) ∙ false_xor (literal_value values b)));
  known = one_known (both a b) b (second_known a b);
}

one_first : (a b : ℕ) → a ≡ 1 → KeepsValue (shape.Xor a b) (Literal (inverse_of b))
one_first a b e = record {
  value = λ values z. rw e (inverse_value values b ∙ sym (ap (λ t. xor t (literal_value values b)) (one_value values z) ∙ true_xor (literal_value values b)));
  known = one_known (both a b) (inverse_of b) (same_known (both a b) (inverse_of b) b (node_of_inverse b) (second_known a b));
}

zero_second : (a b : ℕ) → b ≡ 0 → KeepsValue (shape.Xor a b) (Literal a)
zero_second a b e = record {
  value = λ values z. (zero_first b a e).value values z ∙ xor_comm (literal_value values b) (literal_value values a);
  known = one_known (both a b) a (first_known a b);
}

one_second : (a b : ℕ) → b ≡ 1 → KeepsValue (shape.Xor a b) (Literal (inverse_of a))
one_second a b e = record {
  value = λ values z. (one_first b a e).value values z ∙ xor_comm (literal_value values b) (literal_value values a);
  known = one_known (both a b) (inverse_of a) (same_known (both a b) (inverse_of a) a (node_of_inverse a) (first_known a b));
}

pub xor_constant_keeps : (s : Shape) (r : Rewrite) → r ≡ xor_constant_of s → KeepsValue s r
xor_constant_keeps (shape.And a b) r e = rw e (unchanged (both a b) HasZero (shape.And a b))
xor_constant_keeps (shape.Xor a b) r e = rw e (by_test (a == 0) (KeepsValue (shape.Xor a b)) _ _ (λ t. zero_first a b (tested a 0 t))
    (λ t. by_test (b == 0) (KeepsValue (shape.Xor a b)) _ _ (λ u. zero_second a b (tested b 0 u))
    (λ u. by_test (a == 1) (KeepsValue (shape.Xor a b)) _ _ (λ v. one_first a b (tested a 1 v))
    (λ v. by_test (b == 1) (KeepsValue (shape.Xor a b)) _ _ (λ w. one_second a b (tested b 1 w)) (λ w. unchanged (both a b) HasZero (shape.Xor a b))))))

equal_xor : (a b : ℕ) → a ≡ b → KeepsValue (shape.Xor a b) (Literal 0)
equal_xor a b e = record {
  value = λ values z. rw e (zero_value values z ∙ sym (xor_self (literal_value values b)));
  known = one_known (both a b) 0 (constant_known (both a b));
}

opposite_xor : (a b : ℕ) → a ≡ inverse_of b → KeepsValue (shape.Xor a b) (Literal 1)
opposite_xor a b e = record {
  value = λ values z. one_value values z ∙ sym (ap (λ k. xor (literal_value values k) (literal_value values b)) e
      ∙ ap (λ t. xor t (literal_value values b)) (inverse_value values b) ∙ not_xor_self (literal_value values b));
  known = one_known (both a b) 1 (constant_known (both a b));
}

pub xor_same_keeps : (s : Shape) (r : Rewrite) → r ≡ xor_same_of s → KeepsValue s r
xor_same_keeps (shape.And a b) r e = rw e (unchanged (both a b) HasZero (shape.And a b))
xor_same_keeps (shape.Xor a b) r e = rw e (by_test (a == b) (KeepsValue (shape.Xor a b)) _ _ (λ t. equal_xor a b (tested a b t))
    (λ t. by_test (a == inverse_of b) (KeepsValue (shape.Xor a b)) _ _ (λ u. opposite_xor a b (tested a (inverse_of b) u)) (λ u. unchanged (both a b) HasZero (shape.Xor a b))))

unsigned_xor : (a b : ℕ) → KeepsValue (shape.Xor a b) (rewrite.Xor (even_of a) (even_of b) (xor (is_inverse a) (is_inverse b)))
unsigned_xor a b = record {
  value = λ values z. ap (λ t. xor (xor (is_inverse a) (is_inverse b)) (xor t (literal_value values (even_of b)))) (even_value values a)
      ∙ ap (λ t. xor (xor (is_inverse a) (is_inverse b)) (xor (value_at values (a / 2)) t)) (even_value values b)
      ∙ signs_out (is_inverse a) (is_inverse b) (value_at values (a / 2)) (value_at values (b / 2));
  known = two_known (both a b) (even_of a) (even_of b) (same_known (both a b) (even_of a) a (node_of_even a) (first_known a b))
      (same_known (both a b) (even_of b) b (node_of_even b) (second_known a b));
}

pub xor_signs_keeps : (s : Shape) (r : Rewrite) → r ≡ xor_signs_of s → KeepsValue s r
xor_signs_keeps (shape.And a b) r e = rw e (unchanged (both a b) HasZero (shape.And a b))
xor_signs_keeps (shape.Xor a b) r e = rw e (by_test (is_inverse a || is_inverse b) (KeepsValue (shape.Xor a b)) _ _ (λ t. unsigned_xor a b) (λ t. unchanged (both a b) HasZero (shape.Xor a b)))

swapped_xor : (a b : ℕ) → KeepsValue (shape.Xor a b) (rewrite.Xor b a false)
swapped_xor a b = record {
  value = λ values z. false_xor (xor (literal_value values b) (literal_value values a)) ∙ xor_comm (literal_value values b) (literal_value values a);
  known = two_known (both a b) b a (second_known a b) (first_known a b);
}

pub xor_order_keeps : (s : Shape) (r : Rewrite) → r ≡ xor_order_of s → KeepsValue s r
xor_order_keeps (shape.And a b) r e = rw e (unchanged (both a b) HasZero (shape.And a b))
xor_order_keeps (shape.Xor a b) r e = rw e (by_test (nat_lt b a) (KeepsValue (shape.Xor a b)) _ _ (λ t. swapped_xor a b) (λ t. unchanged (both a b) HasZero (shape.Xor a b)))
