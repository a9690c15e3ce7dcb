-- The plain rules for an `and` keep its value.
use Rattle.std.proofs.Common.{◌≡◌, ◌==◌, ℕ, List, Bool, nat_lt, ◌&&◌, ◌||◌, refl, sym, ap, ◌∙◌, inl, inr}
use Rattle.std.proofs.Math.Bool.{and_comm}
use Rattle.g_rules.specs.declared.shapes.Rewrite.{Rewrite}
use Rattle.g_rules.specs.declared.shapes.Rewrite.TheVariants.{Keep, Literal}
use Rattle.g_rules.specs.declared.shapes.Rewrite.TheVariants as rewrite
use Rattle.g_rules.specs.declared.shapes.Shape.{Shape}
use Rattle.g_rules.specs.declared.shapes.Shape.TheVariants as shape
use Rattle.g_net.specs.Run.{literal_value}
use Rattle.g_rules.specs.Literals.{inverse_of}
use Rattle.g_rules.specs.Keeps.{Keeps, KeepsValue, HasZero}
use Rattle.g_rules.specs.PlainRules.{and_constant_of, and_same_of, and_order_of}
use Rattle.g_rules.proofs.Bits.{by_test, either, and_self, and_true, and_false, not_and_self}
use Rattle.g_rules.proofs.Known.{both, constant_known, first_known, second_known, one_known, two_known}
use Rattle.g_rules.proofs.Literals.{tested, zero_value, one_value, inverse_value}

pub unchanged : (nodes : List ℕ) (Holds : List Bool → Type 0) (s : Shape) → Keeps nodes Holds s Keep
unchanged nodes Holds s = record { value = λ values z. refl; known = refl }

zero_first : (a b : ℕ) → a ≡ 0 → KeepsValue (shape.And a b) (Literal 0)
zero_first a b e = record {
  value = λ values z. rw e (zero_value values z ∙ sym (ap (λ t. t && literal_value values b) (zero_value values z)));
  known = one_known (both a b) 0 (constant_known (both a b));
}

zero_second : (a b : ℕ) → b ≡ 0 → KeepsValue (shape.And a b) (Literal 0)
zero_second a b e = record {
  value = λ values z. rw e (zero_value values z ∙ sym (ap (λ t. literal_value values a && t) (zero_value values z) ∙ and_false (literal_value values a)));
  known = one_known (both a b) 0 (constant_known (both a b));
}

one_first : (a b : ℕ) → a ≡ 1 → KeepsValue (shape.And a b) (Literal b)
one_first a b e = record {
  value = λ values z. rw e (sym (ap (λ t. t && literal_value values b) (one_value values z)));
  known = one_known (both a b) b (second_known a b);
}

one_second : (a b : ℕ) → b ≡ 1 → KeepsValue (shape.And a b) (Literal a)
one_second a b e = record {
  value = λ values z. rw e (sym (ap (λ t. literal_value values a && t) (one_value values z) ∙ and_true (literal_value values a)));
  known = one_known (both a b) a (first_known a b);
}

pub and_constant_keeps : (s : Shape) (r : Rewrite) → r ≡ and_constant_of s → KeepsValue s r
and_constant_keeps (shape.And a b) r e = rw e (by_test (a == 0 || b == 0) (KeepsValue (shape.And a b)) _ _
    (λ t. elim (either (a == 0) (b == 0) t) [ inl f ↦ zero_first a b (tested a 0 f) | inr f ↦ zero_second a b (tested b 0 f) ])
    (λ t. by_test (a == 1) (KeepsValue (shape.And a b)) _ _ (λ u. one_first a b (tested a 1 u))
    (λ u. by_test (b == 1) (KeepsValue (shape.And a b)) _ _ (λ v. one_second a b (tested b 1 v)) (λ v. unchanged (both a b) HasZero (shape.And a b)))))
and_constant_keeps (shape.Xor a b) r e = rw e (unchanged (both a b) HasZero (shape.Xor a b))

equal_and : (a b : ℕ) → a ≡ b → KeepsValue (shape.And a b) (Literal a)
equal_and a b e = record {
  value = λ values z. rw e (sym (and_self (literal_value values b)));
  known = one_known (both a b) a (first_known a b);
}

opposite_and : (a b : ℕ) → a ≡ inverse_of b → KeepsValue (shape.And a b) (Literal 0)
opposite_and a b e = record {
  value = λ values z. zero_value values z ∙ sym (ap (λ k. literal_value values k && literal_value values b) e
      ∙ ap (λ t. t && literal_value values b) (inverse_value values b) ∙ not_and_self (literal_value values b));
  known = one_known (both a b) 0 (constant_known (both a b));
}

pub and_same_keeps : (s : Shape) (r : Rewrite) → r ≡ and_same_of s → KeepsValue s r
and_same_keeps (shape.And a b) r e = rw e (by_test (a == b) (KeepsValue (shape.And a b)) _ _ (λ t. equal_and a b (tested a b t))
    (λ t. by_test (a == inverse_of b) (KeepsValue (shape.And a b)) _ _ (λ u. opposite_and a b (tested a (inverse_of b) u)) (λ u. unchanged (both a b) HasZero (shape.And a b))))
and_same_keeps (shape.Xor a b) r e = rw e (unchanged (both a b) HasZero (shape.Xor a b))

swapped_and : (a b : ℕ) → KeepsValue (shape.And a b) (rewrite.And b a)
swapped_and a b = record {
  value = λ values z. and_comm (literal_value values b) (literal_value values a);
  known = two_known (both a b) b a (second_known a b) (first_known a b);
}

pub and_order_keeps : (s : Shape) (r : Rewrite) → r ≡ and_order_of s → KeepsValue s r
and_order_keeps (shape.And a b) r e = rw e (by_test (nat_lt b a) (KeepsValue (shape.And a b)) _ _ (λ t. swapped_and a b) (λ t. unchanged (both a b) HasZero (shape.And a b)))
and_order_keeps (shape.Xor a b) r e = rw e (unchanged (both a b) HasZero (shape.Xor a b))
