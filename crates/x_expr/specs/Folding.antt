-- What a node is folded to.
use Rattle.std.specs.Prelude.{◌≡◌, ⊤, ℕ, ◌<◌, ◌^◌, List, Some}
use Rattle.v_meaning.specs.Views.{View}
use Rattle.x_expr.specs.declared.node.Shape.TheVariants as s
use Rattle.x_expr.specs.declared.node.Node.{Node}
use Rattle.x_expr.specs.declared.folding.Fold.{Fold}
use Rattle.x_expr.specs.declared.folding.Fold.TheVariants as o
use Rattle.x_expr.specs.Nodes.{IsArena, IsWidth, shape_at, shape_of}
use Rattle.x_expr.specs.Values.{One, node_value, value_at, values_of}

-- A node of an arena has the shape and the value of this one, in every view; or its value is this constant; or it is left
-- as it is.
abbrev pub IsFold : List Node → Node → Fold → Type 0
IsFold nodes node (o.There number) =
    IsArena nodes × (shape_at nodes number ≡ Some (shape_of node)) × ((v : View) → value_at v nodes number ≡ node_value v (values_of v nodes) node)
IsFold nodes node (o.Constant width value) =
    IsWidth width × (value < 2 ^ width) × (shape_of node ≡ s.Word width) × ((v : View) → node_value v (values_of v nodes) node ≡ One value)
IsFold nodes node o.Itself = ⊤

-- the node of this number is a constant of this value, if one is told
pub record IsConstant (nodes : List Node) (number width value : ℕ) : Type 0 where
  pub has_bits : IsWidth width
  pub below : value < 2 ^ width
  pub shape : shape_at nodes number ≡ Some (s.Word width)
  pub is : (v : View) → value_at v nodes number ≡ One value
