-- The nodes of an arena, and when a node may stand behind others.
use Rattle.std.specs.Prelude.{◌≡◌, ⊤, ℕ, ◌+◌, ◌*◌, ◌<◌, ◌≤◌, ◌^◌, List, [], ◌∷◌, ◌++◌, Bool, true, false, if◌then◌else◌, Option, None, Some, slice_get}
use Rattle.std.specs.Option.{option_map}
use Rattle.v_meaning.specs.Senses.{Class, Shared, Compared, Shifted, Logical, class_of, is_through}
use Rattle.x_expr.specs.declared.node.Shape.{Shape}
use Rattle.x_expr.specs.declared.node.Shape.TheVariants as s
use Rattle.x_expr.specs.declared.node.Node.{Node}
use Rattle.x_expr.specs.declared.node.Node.TheVariants as n

-- ---- shapes

-- the width of what an operator between operands answers, where it works at this width (1364-2005, 5.4.1, table 5-22)
abbrev pub answer_width : Class → ℕ → ℕ
answer_width Shared width = width
answer_width Compared width = 1
answer_width Shifted width = width
answer_width Logical width = 1

-- what a node stands for
abbrev pub shape_of : Node → Shape
shape_of (n.Constant width value) = s.Word width
shape_of (n.Input index width) = s.Word width
shape_of (n.Variable index width) = s.Word width
shape_of (n.Memory index count width) = s.Memory count width
shape_of (n.Site index width) = s.Word width
shape_of (n.Unary operator width x) = s.Word (if is_through operator.0 then width else 1)
shape_of (n.Binary operator width signed x y) = s.Word (answer_width (class_of operator.0) width)
shape_of (n.Choose shape c x y) = shape
shape_of (n.Part low width x) = s.Word width
shape_of (n.Extend from to signed x) = s.Word to
shape_of (n.Concat left_width x right_width y) = s.Word (left_width + right_width)
shape_of (n.Copies count width x) = s.Word (count * width)
shape_of (n.Read count width memory index) = s.Word width
shape_of (n.Write count width memory index x) = s.Memory count width

-- what the node of this number stands for; None where there is none
abbrev pub shape_at : List Node → ℕ → Option Shape
shape_at nodes number = option_map shape_of (slice_get nodes number)

abbrev pub is_word : Option Shape → Bool
is_word None = false
is_word (Some (s.Word width)) = true
is_word (Some (s.Memory count width)) = false

-- ---- what may stand behind these nodes

-- 1 to 128 bits
abbrev pub IsWidth : ℕ → Type 0
IsWidth width = (1 ≤ width) × (width ≤ 128)

-- a word of this width is there, a memory, or a word of any width
abbrev pub HasWord : List Node → ℕ → ℕ → Type 0
HasWord nodes number width = shape_at nodes number ≡ Some (s.Word width)

abbrev pub HasMemory : List Node → ℕ → ℕ → ℕ → Type 0
HasMemory nodes number count width = shape_at nodes number ≡ Some (s.Memory count width)

abbrev pub HasAnyWord : List Node → ℕ → Type 0
HasAnyWord nodes number = is_word (shape_at nodes number) ≡ true

-- the operands of an operator that works at this width
abbrev pub HasOperands : List Node → Class → ℕ → ℕ → ℕ → Type 0
HasOperands nodes Shared width x y = HasWord nodes x width × HasWord nodes y width
HasOperands nodes Compared width x y = HasWord nodes x width × HasWord nodes y width
HasOperands nodes Shifted width x y = HasWord nodes x width × HasAnyWord nodes y
HasOperands nodes Logical width x y = HasAnyWord nodes x × HasAnyWord nodes y

-- the node keeps to its widths, and those that it is over are there and have theirs
abbrev pub IsNode : List Node → Node → Type 0
IsNode nodes (n.Constant width value) = IsWidth width × (value < 2 ^ width)
IsNode nodes (n.Input index width) = IsWidth width
IsNode nodes (n.Variable index width) = IsWidth width
IsNode nodes (n.Memory index count width) = IsWidth width
IsNode nodes (n.Site index width) = IsWidth width
IsNode nodes (n.Unary operator width x) = IsWidth width × HasWord nodes x width
IsNode nodes (n.Binary operator width signed x y) = IsWidth width × HasOperands nodes (class_of operator.0) width x y
IsNode nodes (n.Choose shape c x y) = HasAnyWord nodes c × (shape_at nodes x ≡ Some shape) × (shape_at nodes y ≡ Some shape)
IsNode nodes (n.Part low width x) = IsWidth width × HasAnyWord nodes x
IsNode nodes (n.Extend from to signed x) = (from ≤ to) × IsWidth to × HasWord nodes x from
IsNode nodes (n.Concat left_width x right_width y) =
    IsWidth (left_width + right_width) × HasWord nodes x left_width × HasWord nodes y right_width
IsNode nodes (n.Copies count width x) = IsWidth (count * width) × HasWord nodes x width
IsNode nodes (n.Read count width memory index) = HasMemory nodes memory count width × HasAnyWord nodes index
IsNode nodes (n.Write count width memory index x) = HasMemory nodes memory count width × HasAnyWord nodes index × HasWord nodes x width

-- each of the second nodes may stand behind the first and those before it
abbrev pub AreBehind : List Node → List Node → Type 0
AreBehind before [] = ⊤
AreBehind before (node ∷ nodes) = IsNode before node × AreBehind (before ++ node ∷ []) nodes

-- no two nodes are equal
abbrev pub AllDiffer : List Node → Type 0
AllDiffer nodes = (i j : ℕ) (node : Node) → slice_get nodes i ≡ Some node → slice_get nodes j ≡ Some node → i ≡ j

-- the nodes of an arena: each is over those before it, and no two are equal
pub record IsArena (nodes : List Node) : Type 0 where
  pub behind : AreBehind [] nodes
  pub differ : AllDiffer nodes

-- ---- arenas that have grown

-- the nodes that were there keep their numbers, and more may have come behind them
pub record Extends (old new : List Node) : Type 0 where
  pub more : List Node
  pub grown : new ≡ old ++ more
