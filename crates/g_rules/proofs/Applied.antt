-- Rules one after another leave a shape's value, and are applied in their order.
use Rattle.std.proofs.Common.{◌≡◌, ◌==◌, ℕ, ◌+◌, ◌<◌, ◌/◌, List, [], ◌∷◌, ◌++◌, length, get_or, drop, map, Bool, true, false, ◌&&◌, Option, None, refl, sym, ap, ◌∙◌, inl, inr, subst, arith}
use Rattle.std.specs.Prelude.{⊤}
use Rattle.std.proofs.lemmas.List.{drop_more}
use mathlib.Core.Bool.{xor}
use Rattle.g_rules.specs.declared.applying.Outcome.{Outcome}
use Rattle.g_rules.specs.declared.applying.Outcome.TheVariants as outcome
use Rattle.g_rules.specs.declared.shapes.Deep.{Deep}
use Rattle.g_rules.specs.declared.shapes.Rewrite.{Rewrite}
use Rattle.g_rules.specs.declared.shapes.Rewrite.TheVariants as rewrite
use Rattle.g_rules.specs.declared.shapes.Shape.{Shape}
use Rattle.g_rules.specs.declared.shapes.Shape.TheVariants as shape
use Rattle.g_rules.specs.Applying.{outcome_of, Leaves, deep_of, outcome_value, outcome_literals, HasEveryGate, AreWithin, GatesWithin, IsOutcome}
use Rattle.g_rules.specs.Keeps.{Keeps, KeepsValue, KeepsDeepValue, HasZero, HasGates, is_known, are_known, first_node, second_node}
use Rattle.g_net.specs.Run.{literal_value}
use Rattle.g_rules.specs.Literals.{literal_node}
use Rattle.g_rules.specs.Shapes.{shape_value, rewrite_value, shape_literals, operand_literals, rewrite_literals, shape_nodes, operand_nodes, deep_nodes}
use Rattle.g_rules.proofs.Bits.{either, false_xor, xor_assoc}
use Rattle.g_rules.proofs.Literals.{tested, inverted_value, node_of_inverted}

-- a literal stays
pub leaves_literal : {R : Type 0} (Makes : R → Shape → Rewrite → Type 0) (rules : List R) (l : ℕ) → Leaves Makes rules (outcome.Literal l) (outcome.Literal l)
leaves_literal Makes [] l = refl
leaves_literal Makes (rule ∷ rules) l = refl

-- one rule more
pub leaves_next : {R : Type 0} (Makes : R → Shape → Rewrite → Type 0) (rules : List R) (i : ℕ) (rule : R) (s : Shape) (invert : Bool) (r : Rewrite) (next last : Outcome)
    → i < length rules → rule ≡ get_or rules i rule → Makes rule s r → next ≡ outcome_of s invert r
    → Leaves Makes (drop (i + 1) rules) next last → Leaves Makes (drop i rules) (outcome.Gate s invert) last
leaves_next Makes rules i rule s invert r next last within is makes e rest =
    rw (drop_more rules i rule within, sym is) (r, makes, rw (sym e) rest)

abbrev NodesBelow : ℕ → List ℕ → Type 0
NodesBelow count [] = ⊤
NodesBelow count (n ∷ nodes) = (n < count) × NodesBelow count nodes

known_below : (count : ℕ) (nodes : List ℕ) (m : ℕ) → 0 < count → NodesBelow count nodes → is_known nodes m ≡ true → m < count
known_below count [] m some below e = let zero_is : m ≡ 0 = tested m 0 e in omega arith
known_below count (n ∷ nodes) m some below e = elim (either (m == n) (is_known nodes m) e) [
  | inl f ↦ (let same : m ≡ n = tested m n f in omega (arith, below.0))
  | inr f ↦ known_below count nodes m some below.1 f
]

both_true : (a b : Bool) → (a && b) ≡ true → (a ≡ true) × (b ≡ true)
both_true true b e = (refl, e)
both_true false b e = cc

literals_within : (count : ℕ) (nodes literals : List ℕ) → 0 < count → NodesBelow count nodes → are_known nodes literals ≡ true → AreWithin count literals
literals_within count nodes [] some below e = tt
literals_within count nodes (l ∷ literals) some below e =
    let split = both_true (is_known nodes (l / 2)) (are_known nodes literals) e in
    (known_below count nodes (l / 2) some below split.0, literals_within count nodes literals some below split.1)

nodes_within : (count : ℕ) (literals : List ℕ) → AreWithin count literals → NodesBelow count (map literal_node literals)
nodes_within count [] w = tt
nodes_within count (l ∷ literals) w = (w.0, nodes_within count literals w.1)

both_within : (count : ℕ) (xs ys : List ℕ) → NodesBelow count xs → NodesBelow count ys → NodesBelow count (xs ++ ys)
both_within count [] ys a b = b
both_within count (x ∷ xs) ys a b = (a.0, both_within count xs ys a.1 b)

outcome_was : (values : List Bool) (s : Shape) (invert : Bool) (r : Rewrite) → outcome_value values (outcome_of s invert r) ≡ xor invert (rewrite_value values s r)
outcome_was values s invert rewrite.Keep = refl
outcome_was values s invert (rewrite.Literal l) = inverted_value values l invert
outcome_was values s invert (rewrite.And a b) = refl
outcome_was values s invert (rewrite.Xor a b i) = xor_assoc invert i (xor (literal_value values a) (literal_value values b))

outcome_within : (count : ℕ) (s : Shape) (invert : Bool) (r : Rewrite) → AreWithin count (shape_literals s) → AreWithin count (rewrite_literals r) → AreWithin count (outcome_literals (outcome_of s invert r))
outcome_within count s invert rewrite.Keep a b = a
outcome_within count s invert (rewrite.Literal l) a b = (rw (node_of_inverted l invert) b.0, tt)
outcome_within count s invert (rewrite.And x y) a b = b
outcome_within count s invert (rewrite.Xor x y i) a b = b

-- a rule that is right for values that the gates imply
next_outcome : (gates : ℕ → Option Shape) (nodes : List ℕ) (Holds : List Bool → Type 0) (first s : Shape) (invert : Bool) (r : Rewrite) → IsOutcome gates first (outcome.Gate s invert) → Keeps nodes Holds s r
    → ((values : List Bool) → HasEveryGate gates values → Holds values) → ((count : ℕ) → GatesWithin count gates → AreWithin count (shape_literals s) → NodesBelow count nodes)
    → IsOutcome gates first (outcome_of s invert r)
next_outcome gates nodes Holds first s invert r o k implied there = record {
  value = λ values h. outcome_was values s invert r ∙ ap (xor invert) (k.value values (implied values h)) ∙ o.value values h;
  within = λ count some gates_in shape_in.
      let now = o.within count some gates_in shape_in in
      outcome_within count s invert r now (literals_within count nodes (rewrite_literals r) some (there count gates_in now) k.known);
}

pub plain_next : (gates : ℕ → Option Shape) (first s : Shape) (invert : Bool) (r : Rewrite) → IsOutcome gates first (outcome.Gate s invert) → KeepsValue s r → IsOutcome gates first (outcome_of s invert r)
plain_next gates first s invert r o k = next_outcome gates (shape_nodes s) HasZero first s invert r o k (λ values h. h.0) (λ count gates_in shape_in. nodes_within count (shape_literals s) shape_in)

-- the nodes of a shape are within where its literals are
first_within : (count : ℕ) (s : Shape) → AreWithin count (shape_literals s) → first_node s < count
first_within count (shape.And a b) w = w.0
first_within count (shape.Xor a b) w = w.0

second_within : (count : ℕ) (s : Shape) → AreWithin count (shape_literals s) → second_node s < count
second_within count (shape.And a b) w = w.1.0
second_within count (shape.Xor a b) w = w.1.0

pub deep_next : (gates : ℕ → Option Shape) (first s : Shape) (invert : Bool) (r : Rewrite) (d : Deep) → IsOutcome gates first (outcome.Gate s invert) → d ≡ deep_of gates s → KeepsDeepValue d r → IsOutcome gates first (outcome_of s invert r)
deep_next gates first s invert r d o looked kept =
    let k : KeepsDeepValue (deep_of gates s) r = subst (λ z. KeepsDeepValue z r) looked kept in
    next_outcome gates (deep_nodes (deep_of gates s)) (HasGates (deep_of gates s)) first s invert r o k
    (λ values h. (h.0, h.1 (first_node s), h.1 (second_node s)))
    (λ count gates_in shape_in. both_within count (shape_nodes s ++ operand_nodes (gates (first_node s))) (operand_nodes (gates (second_node s)))
    (both_within count (shape_nodes s) (operand_nodes (gates (first_node s))) (nodes_within count (shape_literals s) shape_in)
    (nodes_within count (operand_literals (gates (first_node s))) (gates_in (first_node s) (first_within count s shape_in))))
    (nodes_within count (operand_literals (gates (second_node s))) (gates_in (second_node s) (second_within count s shape_in))))

-- a shape itself
pub outcome_none : (gates : ℕ → Option Shape) (s : Shape) → IsOutcome gates s (outcome.Gate s false)
outcome_none gates s = record { value = λ values h. false_xor (shape_value values s); within = λ count some gates_in shape_in. shape_in }

-- what is right without any gate is right with gates
pub outcome_anywhere : (gates : ℕ → Option Shape) (s : Shape) (o : Outcome) → IsOutcome (λ node. None) s o → IsOutcome gates s o
outcome_anywhere gates s o is = record {
  value = λ values h. is.value values (h.0, λ node. tt);
  within = λ count some gates_in shape_in. is.within count some (λ node below. tt) shape_in;
}
