-- The rules that look at the gates below keep the value of a shape.
use Rattle.std.proofs.Common.{◌≡◌, ◌==◌, ℕ, ◌/◌, List, ◌++◌, Bool, true, false, ◌&&◌, ◌||◌, Option, None, Some, refl, sym, ap, ◌∙◌, inl, inr}
use Rattle.std.specs.Prelude.{⊤}
use Rattle.std.proofs.Math.Bool.{and_comm}
use mathlib.Core.Bool.{xor, not}
use Rattle.g_rules.specs.declared.shapes.Deep.{Deep}
use Rattle.g_rules.specs.declared.shapes.Rewrite.{Rewrite}
use Rattle.g_rules.specs.declared.shapes.Rewrite.TheVariants.{Keep, Literal}
use Rattle.g_rules.specs.declared.shapes.Rewrite.TheVariants as rewrite
use Rattle.g_rules.specs.declared.shapes.Shape.{Shape}
use Rattle.g_rules.specs.declared.shapes.Shape.TheVariants as shape
use Rattle.lz_circuit.specs.Values.{value_at}
use Rattle.g_net.specs.Run.{literal_value}
use Rattle.g_rules.specs.Literals.{literal_node, is_inverse, inverse_of, inverted_of}
use Rattle.g_rules.specs.Shapes.{deep_nodes, shape_nodes, operand_nodes}
use Rattle.g_rules.specs.Keeps.{Keeps, KeepsDeepValue, HasZero, HasGate, HasGates, is_known}
use Rattle.g_rules.specs.DeepRules.{or_else, absorbed, subsumed, cancelled, and_absorb_of, and_subsume_of, xor_cancel_of}
use Rattle.g_rules.proofs.AndRules.{unchanged}
use Rattle.g_rules.proofs.Bits.{by_test, either, false_xor, true_xor, xor_comm, absorbs, excludes, subsumes, strengthens, node_cancels}
use Rattle.g_rules.proofs.Known.{both, constant_known, first_known, second_known, one_known, two_known, same_known, known_left, known_right}
use Rattle.g_rules.proofs.Literals.{tested, zero_value, inverse_value, inverted_value, node_of_inverse, node_of_inverted, same_node}

-- the literals of a gate are known
abbrev GateKnown : List ℕ → Option Shape → Type 0
GateKnown nodes None = ⊤
GateKnown nodes (Some (shape.And x y)) = (is_known nodes (x / 2) ≡ true) × (is_known nodes (y / 2) ≡ true)
GateKnown nodes (Some (shape.Xor x y)) = (is_known nodes (x / 2) ≡ true) × (is_known nodes (y / 2) ≡ true)

-- What is known of the literals of a shape and of the gate at the second one: the nodes, and the gate's value.
record Below (nodes : List ℕ) (Holds : List Bool → Type 0) (a b : ℕ) (gate : Option Shape) : Type 0 where
  first : is_known nodes (a / 2) ≡ true
  second : is_known nodes (b / 2) ≡ true
  operands : GateKnown nodes gate
  zero_is : (values : List Bool) → Holds values → HasZero values
  gate_is : (values : List Bool) → Holds values → HasGate values (b / 2) gate

-- the first that rewrites is right where each is
or_else_keeps : (nodes : List ℕ) (Holds : List Bool → Type 0) (s : Shape) (p q : Rewrite) → Keeps nodes Holds s p → Keeps nodes Holds s q → Keeps nodes Holds s (or_else p q)
or_else_keeps nodes Holds s Keep q k m = m
or_else_keeps nodes Holds s (Literal l) q k m = k
or_else_keeps nodes Holds s (rewrite.And a b) q k m = k
or_else_keeps nodes Holds s (rewrite.Xor a b i) q k m = k

turned_and : (nodes : List ℕ) (Holds : List Bool → Type 0) (a b : ℕ) (r : Rewrite) → Keeps nodes Holds (shape.And b a) r → Keeps nodes Holds (shape.And a b) r
turned_and nodes Holds a b Keep k = unchanged nodes Holds (shape.And a b)
turned_and nodes Holds a b (Literal l) k = record { value = λ values h. k.value values h ∙ and_comm (literal_value values b) (literal_value values a); known = k.known }
turned_and nodes Holds a b (rewrite.And x y) k = record { value = λ values h. k.value values h ∙ and_comm (literal_value values b) (literal_value values a); known = k.known }
turned_and nodes Holds a b (rewrite.Xor x y i) k = record { value = λ values h. k.value values h ∙ and_comm (literal_value values b) (literal_value values a); known = k.known }

turned_xor : (nodes : List ℕ) (Holds : List Bool → Type 0) (a b : ℕ) (r : Rewrite) → Keeps nodes Holds (shape.Xor b a) r → Keeps nodes Holds (shape.Xor a b) r
turned_xor nodes Holds a b Keep k = unchanged nodes Holds (shape.Xor a b)
turned_xor nodes Holds a b (Literal l) k = record { value = λ values h. k.value values h ∙ xor_comm (literal_value values b) (literal_value values a); known = k.known }
turned_xor nodes Holds a b (rewrite.And x y) k = record { value = λ values h. k.value values h ∙ xor_comm (literal_value values b) (literal_value values a); known = k.known }
turned_xor nodes Holds a b (rewrite.Xor x y i) k = record { value = λ values h. k.value values h ∙ xor_comm (literal_value values b) (literal_value values a); known = k.known }

-- a gate has its operands in either order
turned_gate : (nodes : List ℕ) (Holds : List Bool → Type 0) (a b x y : ℕ) → Below nodes Holds a b (Some (shape.And x y)) → Below nodes Holds a b (Some (shape.And y x))
turned_gate nodes Holds a b x y w = record {
  first = w.first;
  second = w.second;
  operands = (w.operands.1, w.operands.0);
  zero_is = w.zero_is;
  gate_is = λ values h. w.gate_is values h ∙ and_comm (literal_value values x) (literal_value values y);
}

turned_xor_gate : (nodes : List ℕ) (Holds : List Bool → Type 0) (a b x y : ℕ) → Below nodes Holds a b (Some (shape.Xor x y)) → Below nodes Holds a b (Some (shape.Xor y x))
turned_xor_gate nodes Holds a b x y w = record {
  first = w.first;
  second = w.second;
  operands = (w.operands.1, w.operands.0);
  zero_is = w.zero_is;
  gate_is = λ values h. w.gate_is values h ∙ xor_comm (literal_value values x) (literal_value values y);
}

-- a literal that is no inverse has the value of the gate at its node
plain_gate : (values : List Bool) (b x y : ℕ) → is_inverse b ≡ false → HasGate values (b / 2) (Some (shape.And x y)) → literal_value values b ≡ (literal_value values x && literal_value values y)
plain_gate values b x y e h = ap (λ s. xor s (value_at values (b / 2))) e ∙ false_xor (value_at values (b / 2)) ∙ h

inverse_gate : (values : List Bool) (b x y : ℕ) → is_inverse b ≡ true → HasGate values (b / 2) (Some (shape.And x y)) → literal_value values b ≡ not (literal_value values x && literal_value values y)
inverse_gate values b x y e h = ap (λ s. xor s (value_at values (b / 2))) e ∙ true_xor (value_at values (b / 2)) ∙ ap not h

-- `and` of x and of a gate with x
same_absorbed : (nodes : List ℕ) (Holds : List Bool → Type 0) (a b x y : ℕ) → Below nodes Holds a b (Some (shape.And x y)) → is_inverse b ≡ false → a ≡ x → Keeps nodes Holds (shape.And a b) (Literal b)
same_absorbed nodes Holds a b x y w e same = record {
  value = λ values h.
      let gate = plain_gate values b x y e (w.gate_is values h) in
      gate ∙ sym (ap (λ k. literal_value values k && literal_value values b) same ∙ ap (λ t. literal_value values x && t) gate ∙ absorbs (literal_value values x) (literal_value values y));
  known = one_known nodes b w.second;
}

opposite_absorbed : (nodes : List ℕ) (Holds : List Bool → Type 0) (a b x y : ℕ) → Below nodes Holds a b (Some (shape.And x y)) → is_inverse b ≡ false → a ≡ inverse_of x → Keeps nodes Holds (shape.And a b) (Literal 0)
opposite_absorbed nodes Holds a b x y w e same = record {
  value = λ values h.
      let gate = plain_gate values b x y e (w.gate_is values h) in
      zero_value values (w.zero_is values h) ∙ sym (ap (λ k. literal_value values k && literal_value values b) same ∙ ap (λ t. t && literal_value values b) (inverse_value values x)
      ∙ ap (λ t. not (literal_value values x) && t) gate ∙ excludes (literal_value values x) (literal_value values y));
  known = one_known nodes 0 (constant_known nodes);
}

absorbed_keeps : (nodes : List ℕ) (Holds : List Bool → Type 0) (a b : ℕ) (gate : Option Shape) → Below nodes Holds a b gate → Keeps nodes Holds (shape.And a b) (absorbed a b gate)
absorbed_keeps nodes Holds a b None w = unchanged nodes Holds (shape.And a b)
absorbed_keeps nodes Holds a b (Some (shape.Xor x y)) w = unchanged nodes Holds (shape.And a b)
absorbed_keeps nodes Holds a b (Some (shape.And x y)) w =
    by_test (is_inverse b) (Keeps nodes Holds (shape.And a b)) _ _ (λ t. unchanged nodes Holds (shape.And a b))
    (λ t. by_test (a == x || a == y) (Keeps nodes Holds (shape.And a b)) _ _
    (λ u. elim (either (a == x) (a == y) u) [
      | inl f ↦ same_absorbed nodes Holds a b x y w t (tested a x f)
      | inr f ↦ same_absorbed nodes Holds a b y x (turned_gate nodes Holds a b x y w) t (tested a y f)
    ])
    (λ u. by_test (a == inverse_of x || a == inverse_of y) (Keeps nodes Holds (shape.And a b)) _ _
    (λ v. elim (either (a == inverse_of x) (a == inverse_of y) v) [
      | inl f ↦ opposite_absorbed nodes Holds a b x y w t (tested a (inverse_of x) f)
      | inr f ↦ opposite_absorbed nodes Holds a b y x (turned_gate nodes Holds a b x y w) t (tested a (inverse_of y) f)
    ])
    (λ v. unchanged nodes Holds (shape.And a b))))

-- `and` of the inverse of x and of the inverse of a gate with x
opposite_subsumed : (nodes : List ℕ) (Holds : List Bool → Type 0) (a b x y : ℕ) → Below nodes Holds a b (Some (shape.And x y)) → is_inverse b ≡ true → a ≡ inverse_of x → Keeps nodes Holds (shape.And a b) (Literal a)
opposite_subsumed nodes Holds a b x y w e same = record {
  value = λ values h.
      let gate = inverse_gate values b x y e (w.gate_is values h) in
      let is = ap (literal_value values) same ∙ inverse_value values x in
      is ∙ sym (ap (λ t. t && literal_value values b) is ∙ ap (λ t. not (literal_value values x) && t) gate ∙ subsumes (literal_value values x) (literal_value values y));
  known = one_known nodes a w.first;
}

same_subsumed : (nodes : List ℕ) (Holds : List Bool → Type 0) (a b x y : ℕ) → Below nodes Holds a b (Some (shape.And x y)) → is_inverse b ≡ true → a ≡ x
    → Keeps nodes Holds (shape.And a b) (rewrite.And a (inverse_of y))
same_subsumed nodes Holds a b x y w e same = record {
  value = λ values h.
      let gate = inverse_gate values b x y e (w.gate_is values h) in
      ap (λ t. literal_value values a && t) (inverse_value values y) ∙ ap (λ k. literal_value values k && not (literal_value values y)) same
      ∙ sym (ap (λ k. literal_value values k && literal_value values b) same ∙ ap (λ t. literal_value values x && t) gate ∙ strengthens (literal_value values x) (literal_value values y));
  known = two_known nodes a (inverse_of y) w.first (same_known nodes (inverse_of y) y (node_of_inverse y) w.operands.1);
}

subsumed_keeps : (nodes : List ℕ) (Holds : List Bool → Type 0) (a b : ℕ) (gate : Option Shape) → Below nodes Holds a b gate → Keeps nodes Holds (shape.And a b) (subsumed a b gate)
subsumed_keeps nodes Holds a b None w = unchanged nodes Holds (shape.And a b)
subsumed_keeps nodes Holds a b (Some (shape.Xor x y)) w = unchanged nodes Holds (shape.And a b)
subsumed_keeps nodes Holds a b (Some (shape.And x y)) w =
    by_test (is_inverse b) (Keeps nodes Holds (shape.And a b)) _ _
    (λ t. by_test (a == inverse_of x || a == inverse_of y) (Keeps nodes Holds (shape.And a b)) _ _
    (λ u. elim (either (a == inverse_of x) (a == inverse_of y) u) [
      | inl f ↦ opposite_subsumed nodes Holds a b x y w t (tested a (inverse_of x) f)
      | inr f ↦ opposite_subsumed nodes Holds a b y x (turned_gate nodes Holds a b x y w) t (tested a (inverse_of y) f)
    ])
    (λ u. by_test (a == x) (Keeps nodes Holds (shape.And a b)) _ _ (λ v. same_subsumed nodes Holds a b x y w t (tested a x v))
    (λ v. by_test (a == y) (Keeps nodes Holds (shape.And a b)) _ _ (λ f. same_subsumed nodes Holds a b y x (turned_gate nodes Holds a b x y w) t (tested a y f))
    (λ f. unchanged nodes Holds (shape.And a b)))))
    (λ t. unchanged nodes Holds (shape.And a b))

-- `xor` of a and of a gate with the node of a
node_cancelled : (nodes : List ℕ) (Holds : List Bool → Type 0) (a b x y : ℕ) → Below nodes Holds a b (Some (shape.Xor x y)) → a / 2 ≡ x / 2
    → Keeps nodes Holds (shape.Xor a b) (Literal (inverted_of y (xor (is_inverse b) (not (a == x)))))
node_cancelled nodes Holds a b x y w same = record {
  value = λ values h.
      inverted_value values y (xor (is_inverse b) (not (a == x)))
      ∙ node_cancels (is_inverse b) (not (a == x)) (literal_value values x) (literal_value values y)
      ∙ sym (ap (λ t. xor t (literal_value values b)) (same_node values a x same)
      ∙ ap (λ t. xor (xor (not (a == x)) (literal_value values x)) (xor (is_inverse b) t)) (w.gate_is values h));
  known = one_known nodes _ (same_known nodes _ y (node_of_inverted y (xor (is_inverse b) (not (a == x)))) w.operands.1);
}

cancelled_keeps : (nodes : List ℕ) (Holds : List Bool → Type 0) (a b : ℕ) (gate : Option Shape) → Below nodes Holds a b gate → Keeps nodes Holds (shape.Xor a b) (cancelled a b gate)
cancelled_keeps nodes Holds a b None w = unchanged nodes Holds (shape.Xor a b)
cancelled_keeps nodes Holds a b (Some (shape.And x y)) w = unchanged nodes Holds (shape.Xor a b)
cancelled_keeps nodes Holds a b (Some (shape.Xor x y)) w =
    by_test (literal_node a == literal_node x) (Keeps nodes Holds (shape.Xor a b)) _ _ (λ t. node_cancelled nodes Holds a b x y w (tested (a / 2) (x / 2) t))
    (λ t. by_test (literal_node a == literal_node y) (Keeps nodes Holds (shape.Xor a b)) _ _
    (λ u. node_cancelled nodes Holds a b y x (turned_xor_gate nodes Holds a b x y w) (tested (a / 2) (y / 2) u))
    (λ u. unchanged nodes Holds (shape.Xor a b)))

-- the operands of a gate are among its nodes
gate_known : (gate : Option Shape) → GateKnown (operand_nodes gate) gate
gate_known None = tt
gate_known (Some (shape.And x y)) = (first_known x y, second_known x y)
gate_known (Some (shape.Xor x y)) = (first_known x y, second_known x y)

known_within : (xs ys : List ℕ) (gate : Option Shape) → ((m : ℕ) → is_known xs m ≡ true → is_known ys m ≡ true) → GateKnown xs gate → GateKnown ys gate
known_within xs ys None f k = tt
known_within xs ys (Some (shape.And x y)) f k = (f (x / 2) k.0, f (y / 2) k.1)
known_within xs ys (Some (shape.Xor x y)) f k = (f (x / 2) k.0, f (y / 2) k.1)

-- What is known where the second literal of a shape is looked at, and where the first is.
right_below : (s : Shape) (left right : Option Shape) (a b : ℕ) → shape_nodes s ≡ both a b → ((values : List Bool) → HasGates (record { shape = s; left = left; right = right }) values → HasGate values (b / 2) right)
    → Below (deep_nodes (record { shape = s; left = left; right = right })) (HasGates (record { shape = s; left = left; right = right })) a b right
right_below s left right a b e has = record {
  first = known_left (shape_nodes s ++ operand_nodes left) (operand_nodes right) (a / 2) (known_left (shape_nodes s) (operand_nodes left) (a / 2) (rw e (first_known a b)));
  second = known_left (shape_nodes s ++ operand_nodes left) (operand_nodes right) (b / 2) (known_left (shape_nodes s) (operand_nodes left) (b / 2) (rw e (second_known a b)));
  operands = known_within (operand_nodes right) _ right (known_right (shape_nodes s ++ operand_nodes left) (operand_nodes right)) (gate_known right);
  zero_is = λ values h. h.0;
  gate_is = has;
}

left_below : (s : Shape) (left right : Option Shape) (a b : ℕ) → shape_nodes s ≡ both a b → ((values : List Bool) → HasGates (record { shape = s; left = left; right = right }) values → HasGate values (a / 2) left)
    → Below (deep_nodes (record { shape = s; left = left; right = right })) (HasGates (record { shape = s; left = left; right = right })) b a left
left_below s left right a b e has = record {
  first = known_left (shape_nodes s ++ operand_nodes left) (operand_nodes right) (b / 2) (known_left (shape_nodes s) (operand_nodes left) (b / 2) (rw e (second_known a b)));
  second = known_left (shape_nodes s ++ operand_nodes left) (operand_nodes right) (a / 2) (known_left (shape_nodes s) (operand_nodes left) (a / 2) (rw e (first_known a b)));
  operands = known_within (operand_nodes left) _ left
      (λ m k. known_left (shape_nodes s ++ operand_nodes left) (operand_nodes right) m (known_right (shape_nodes s) (operand_nodes left) m k)) (gate_known left);
  zero_is = λ values h. h.0;
  gate_is = has;
}

absorb_keeps : (s : Shape) (left right : Option Shape) → KeepsDeepValue (record { shape = s; left = left; right = right }) (and_absorb_of (record { shape = s; left = left; right = right }))
absorb_keeps (shape.Xor a b) left right = unchanged _ _ (shape.Xor a b)
absorb_keeps (shape.And a b) left right =
    or_else_keeps _ _ (shape.And a b) (absorbed a b right) (absorbed b a left)
    (absorbed_keeps _ _ a b right (right_below (shape.And a b) left right a b refl (λ values h. h.2)))
    (turned_and _ _ a b (absorbed b a left) (absorbed_keeps _ _ b a left (left_below (shape.And a b) left right a b refl (λ values h. h.1))))

subsume_keeps : (s : Shape) (left right : Option Shape) → KeepsDeepValue (record { shape = s; left = left; right = right }) (and_subsume_of (record { shape = s; left = left; right = right }))
subsume_keeps (shape.Xor a b) left right = unchanged _ _ (shape.Xor a b)
subsume_keeps (shape.And a b) left right =
    or_else_keeps _ _ (shape.And a b) (subsumed a b right) (subsumed b a left)
    (subsumed_keeps _ _ a b right (right_below (shape.And a b) left right a b refl (λ values h. h.2)))
    (turned_and _ _ a b (subsumed b a left) (subsumed_keeps _ _ b a left (left_below (shape.And a b) left right a b refl (λ values h. h.1))))

cancel_keeps : (s : Shape) (left right : Option Shape) → KeepsDeepValue (record { shape = s; left = left; right = right }) (xor_cancel_of (record { shape = s; left = left; right = right }))
cancel_keeps (shape.And a b) left right = unchanged _ _ (shape.And a b)
cancel_keeps (shape.Xor a b) left right =
    or_else_keeps _ _ (shape.Xor a b) (cancelled a b right) (cancelled b a left)
    (cancelled_keeps _ _ a b right (right_below (shape.Xor a b) left right a b refl (λ values h. h.2)))
    (turned_xor _ _ a b (cancelled b a left) (cancelled_keeps _ _ b a left (left_below (shape.Xor a b) left right a b refl (λ values h. h.1))))

pub and_absorb_keeps : (d : Deep) (r : Rewrite) → r ≡ and_absorb_of d → KeepsDeepValue d r
and_absorb_keeps d r e = rw e (absorb_keeps d.shape d.left d.right)

pub and_subsume_keeps : (d : Deep) (r : Rewrite) → r ≡ and_subsume_of d → KeepsDeepValue d r
and_subsume_keeps d r e = rw e (subsume_keeps d.shape d.left d.right)

pub xor_cancel_keeps : (d : Deep) (r : Rewrite) → r ≡ xor_cancel_of d → KeepsDeepValue d r
xor_cancel_keeps d r e = rw e (cancel_keeps d.shape d.left d.right)
