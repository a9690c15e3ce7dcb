-- When a rule is right.
use Rattle.std.specs.Prelude.{◌≡◌, ◌==◌, ℕ, ◌^◌, ◌<◌, List, [], ◌∷◌, Bool, true, false, ◌&&◌, ◌||◌, Option, None, Some, ⊤, IsTrue}
use Rattle.g_rules.specs.declared.shapes.Deep.{Deep}
use Rattle.g_rules.specs.declared.shapes.Rewrite.{Rewrite}
use Rattle.g_rules.specs.declared.shapes.Shape.{Shape}
use Rattle.g_rules.specs.declared.shapes.Shape.TheVariants as shape
use Rattle.lz_circuit.specs.Values.{value_at}
use Rattle.g_rules.specs.Literals.{literal_node}
use Rattle.g_rules.specs.Shapes.{shape_value, rewrite_value, shape_nodes, deep_nodes, rewrite_literals}

-- whether a node is the constant or one of these
abbrev pub is_known : List ℕ → ℕ → Bool
is_known [] node = node == 0
is_known (known ∷ nodes) node = node == known || is_known nodes node

-- whether the node of each literal is the constant or one of these
abbrev pub are_known : List ℕ → List ℕ → Bool
are_known nodes [] = true
are_known nodes (literal ∷ literals) = is_known nodes (literal_node literal) && are_known nodes literals

-- the literals are numbers of the program
abbrev pub HasNumbers : Shape → Type 0
HasNumbers (shape.And a b) = (a < 2 ^ 128) × (b < 2 ^ 128)
HasNumbers (shape.Xor a b) = (a < 2 ^ 128) × (b < 2 ^ 128)

abbrev pub GateHasNumbers : Option Shape → Type 0
GateHasNumbers None = ⊤
GateHasNumbers (Some gate) = HasNumbers gate

abbrev pub DeepHasNumbers : Deep → Type 0
DeepHasNumbers d = HasNumbers d.shape × GateHasNumbers d.left × GateHasNumbers d.right

-- The rewrite has the shape's value for all values of the nodes of which this holds, and each literal in it is a
-- constant or of one of these nodes.
pub record Keeps (nodes : List ℕ) (Holds : List Bool → Type 0) (s : Shape) (r : Rewrite) : Type 0 where
  pub value : (values : List Bool) → Holds values → rewrite_value values s r ≡ shape_value values s
  pub known : IsTrue (are_known nodes (rewrite_literals r))

-- node 0 is the constant 0
abbrev pub HasZero : List Bool → Type 0
HasZero values = value_at values 0 ≡ false

-- what a rule makes of a shape is right for all values of the nodes, and speaks of the shape's nodes alone
abbrev pub KeepsValue : Shape → Rewrite → Type 0
KeepsValue s r = Keeps (shape_nodes s) HasZero s r

-- the node of the first literal
abbrev pub first_node : Shape → ℕ
first_node (shape.And a b) = literal_node a
first_node (shape.Xor a b) = literal_node a

-- the node of the second literal
abbrev pub second_node : Shape → ℕ
second_node (shape.And a b) = literal_node b
second_node (shape.Xor a b) = literal_node b

-- where there is a gate at the node, the node has the gate's value
abbrev pub HasGate : List Bool → ℕ → Option Shape → Type 0
HasGate values node None = ⊤
HasGate values node (Some gate) = value_at values node ≡ shape_value values gate

-- node 0 is the constant 0, and the nodes of the shape have the values of the gates at them
abbrev pub HasGates : Deep → List Bool → Type 0
HasGates d values = HasZero values × HasGate values (first_node d.shape) d.left × HasGate values (second_node d.shape) d.right

-- What a rule makes of a shape is right for all values of the nodes where those of the shape's nodes are the values of
-- the gates at them, and speaks of the nodes alone that stand in the shape or in these gates.
abbrev pub KeepsDeepValue : Deep → Rewrite → Type 0
KeepsDeepValue d r = Keeps (deep_nodes d) (HasGates d) d.shape r
