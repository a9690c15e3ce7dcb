-- The values of shapes and rewrites, and the literals and nodes in them.
use Rattle.std.specs.Prelude.{ℕ, List, [], ◌∷◌, ◌++◌, map, Bool, ◌&&◌, Option, None, Some}
use Rattle.std.specs.Bool.{xor}
use Rattle.g_rules.specs.declared.shapes.Deep.{Deep}
use Rattle.g_rules.specs.declared.shapes.Rewrite.{Rewrite}
use Rattle.g_rules.specs.declared.shapes.Rewrite.TheVariants as rewrite
use Rattle.g_rules.specs.declared.shapes.Shape.{Shape}
use Rattle.g_rules.specs.declared.shapes.Shape.TheVariants as shape
use Rattle.g_net.specs.Run.{literal_value}
use Rattle.g_rules.specs.Literals.{literal_node}

abbrev pub shape_value : List Bool → Shape → Bool
shape_value values (shape.And a b) = literal_value values a && literal_value values b
shape_value values (shape.Xor a b) = xor (literal_value values a) (literal_value values b)

-- the value of what a rule makes of a shape
abbrev pub rewrite_value : List Bool → Shape → Rewrite → Bool
rewrite_value values s rewrite.Keep = shape_value values s
rewrite_value values s (rewrite.Literal literal) = literal_value values literal
rewrite_value values s (rewrite.And a b) = literal_value values a && literal_value values b
rewrite_value values s (rewrite.Xor a b invert) = xor invert (xor (literal_value values a) (literal_value values b))

abbrev pub shape_literals : Shape → List ℕ
shape_literals (shape.And a b) = a ∷ b ∷ []
shape_literals (shape.Xor a b) = a ∷ b ∷ []

abbrev pub operand_literals : Option Shape → List ℕ
operand_literals None = []
operand_literals (Some s) = shape_literals s

abbrev pub rewrite_literals : Rewrite → List ℕ
rewrite_literals rewrite.Keep = []
rewrite_literals (rewrite.Literal literal) = literal ∷ []
rewrite_literals (rewrite.And a b) = a ∷ b ∷ []
rewrite_literals (rewrite.Xor a b invert) = a ∷ b ∷ []

abbrev pub shape_nodes : Shape → List ℕ
shape_nodes s = map literal_node (shape_literals s)

abbrev pub operand_nodes : Option Shape → List ℕ
operand_nodes gate = map literal_node (operand_literals gate)

-- the nodes that stand in a shape or in the gates at its nodes
abbrev pub deep_nodes : Deep → List ℕ
deep_nodes d = shape_nodes d.shape ++ operand_nodes d.left ++ operand_nodes d.right
