-- What the rules of a book leave of a shape, one after another.
use Rattle.std.specs.Prelude.{◌≡◌, ℕ, ◌<◌, List, [], ◌∷◌, Bool, Option, ⊤}
use Rattle.std.specs.Bool.{xor}
use Rattle.g_rules.specs.declared.applying.Outcome.{Outcome}
use Rattle.g_rules.specs.declared.applying.Outcome.TheVariants as outcome
use Rattle.g_rules.specs.declared.shapes.Deep.{Deep}
use Rattle.g_rules.specs.declared.shapes.Rewrite.{Rewrite}
use Rattle.g_rules.specs.declared.shapes.Rewrite.TheVariants as rewrite
use Rattle.g_rules.specs.declared.shapes.Shape.{Shape}
use Rattle.g_rules.specs.declared.shapes.Shape.TheVariants as shape
use Rattle.g_rules.specs.Keeps.{HasZero, HasGate, first_node, second_node}
use Rattle.g_net.specs.Run.{literal_value}
use Rattle.g_rules.specs.Literals.{literal_node, inverted_of}
use Rattle.g_rules.specs.Shapes.{shape_value, shape_literals, operand_literals}

-- What is left where a rule rewrites a shape that is to be inverted or not: a literal, or a shape. Each rewrite with an
-- inversion changes whether it is inverted.
abbrev pub outcome_of : Shape → Bool → Rewrite → Outcome
outcome_of s invert rewrite.Keep = outcome.Gate s invert
outcome_of s invert (rewrite.Literal literal) = outcome.Literal (inverted_of literal invert)
outcome_of s invert (rewrite.And a b) = outcome.Gate (shape.And a b) invert
outcome_of s invert (rewrite.Xor a b inverted) = outcome.Gate (shape.Xor a b) (xor invert inverted)

-- Rules one after another, where `Makes rule s r` says that a rule may make r of s: each rewrites the shape that the
-- one before it left, and a literal is final.
abbrev pub Leaves : {R : Type 0} → (R → Shape → Rewrite → Type 0) → List R → Outcome → Outcome → Type 0
Leaves Makes [] first last = last ≡ first
Leaves Makes (rule ∷ rules) (outcome.Literal literal) last = last ≡ outcome.Literal literal
Leaves Makes (rule ∷ rules) (outcome.Gate s invert) last = (r : Rewrite) × Makes rule s r × Leaves Makes rules (outcome_of s invert r) last

-- a shape with the gates that stand at its nodes
abbrev pub deep_of : (ℕ → Option Shape) → Shape → Deep
deep_of gates s = record { shape = s; left = gates (first_node s); right = gates (second_node s) }

abbrev pub outcome_value : List Bool → Outcome → Bool
outcome_value values (outcome.Literal literal) = literal_value values literal
outcome_value values (outcome.Gate s invert) = xor invert (shape_value values s)

abbrev pub outcome_literals : Outcome → List ℕ
outcome_literals (outcome.Literal literal) = literal ∷ []
outcome_literals (outcome.Gate s invert) = shape_literals s

-- node 0 is the constant 0, and each node at which a gate stands has the gate's value
abbrev pub HasEveryGate : (ℕ → Option Shape) → List Bool → Type 0
HasEveryGate gates values = HasZero values × ((node : ℕ) → HasGate values node (gates node))

-- the literals are of so many first nodes
abbrev pub AreWithin : ℕ → List ℕ → Type 0
AreWithin count [] = ⊤
AreWithin count (literal ∷ literals) = (literal_node literal < count) × AreWithin count literals

-- the gates at so many first nodes are over these nodes
abbrev pub GatesWithin : ℕ → (ℕ → Option Shape) → Type 0
GatesWithin count gates = (node : ℕ) → node < count → AreWithin count (operand_literals (gates node))

-- What is left has the shape's value for all values of the nodes where these gates hold. It speaks of no nodes but
-- those that are there: where the shape and the gates are over so many first nodes, it is too.
pub record IsOutcome (gates : ℕ → Option Shape) (s : Shape) (o : Outcome) : Type 0 where
  pub value : (values : List Bool) → HasEveryGate gates values → outcome_value values o ≡ shape_value values s
  pub within : (count : ℕ) → 0 < count → GatesWithin count gates → AreWithin count (shape_literals s) → AreWithin count (outcome_literals o)
