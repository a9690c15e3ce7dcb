-- What is counted of expressions. No public clause names these.
use Rattle.std.specs.Prelude.{◌≡◌, ℕ, ◌+◌, ◌*◌, List, map, sum, Bool, ◌&&◌, if◌then◌else◌, max}
use Rattle.std.specs.List.{list_all}
use Rattle.v_syntax.specs.declared.expr.Expr.{Expr}
use Rattle.v_syntax.specs.declared.expr.BinaryOperator.{BinaryOperator}
use Rattle.v_meaning.specs.Senses.{Class}
use Rattle.v_meaning.specs.declared.names.Entry.{Entry}
use Rattle.v_meaning.specs.Expressions.{is_constant, all_links}
use Rattle.v_meaning.specs.Sites.{select_width}
use Rattle.v_meaning.specs.Proper.{width_of}
use Rattle.v_meaning.specs.Weights.{Weighing, Weighed, weighed, weighed_by, weighed_chain, own_weight, through_weight, size_of, weight_at, weight_by_itself}
use Rattle.v_weight.specs.declared.counting.Counted.{Counted}
use Rattle.v_weight.specs.Saturated.{Same}
use Rattle.v_weight.specs.Polynomials.{Gives}

-- It is counted of what has this width and these weights.
pub record Stands (x : Counted) (s : Weighed) : Type 0 where
  pub width : Same x.width s.width
  pub weight : Gives x.weight s.at

-- ---- operators

abbrev pub Operates : Class → BinaryOperator → Counted → Counted → Counted → Type 0
Operates class op x y r = (s t : Weighed) → Stands x s → Stands y t → Stands r (weighed_by class op y.is_constant s t)

-- an operator before an operand that takes the final width, or determines itself
abbrev pub weighed_before : Bool → Weighed → Weighed
weighed_before through x = record { width = if through then x.width else 1; at = through_weight through x }

abbrev pub Prefixes : Bool → Counted → Counted → Type 0
Prefixes through x r = (s : Weighed) → Stands x s → Stands r (weighed_before through s)

abbrev pub weighed_choice : Weighed → Weighed → Weighed → Weighed
weighed_choice c x y = record { width = max x.width y.width; at = λ width. width + c.width + own_weight c + x.at width + y.at width }

abbrev pub as_many : ℕ → Weighed → Weighed
as_many count x = record { width = count * x.width; at = x.at }

abbrev pub recast : Weighed → Weighed
recast x = record { width = x.width; at = λ width. own_weight x }

-- ---- leaves

abbrev pub weightless : ℕ → Weighed
weightless width = record { width = width; at = λ width. 0 }

-- with an index, fixed or not
abbrev pub weighed_select : Entry → Bool → Weighed → Weighed
weighed_select e fixed index = record { width = select_width e.kind e; at = λ width. (if fixed then 0 else size_of e) + own_weight index }

-- ---- expressions

-- each expression beside its weight
abbrev pub weighing : List Entry → Expr → Weighing
weighing names x = (x, weight_at names x)

abbrev pub link_weighings : List Entry → List (BinaryOperator × Expr) → List (BinaryOperator × Weighing)
link_weighings names links = map (λ (link : BinaryOperator × Expr). (link.0, weighing names link.1)) links

abbrev pub links_constant : List Entry → List (BinaryOperator × Expr) → Bool
links_constant names links = all_links (map (λ (link : BinaryOperator × Expr). (link.0, is_constant names link.1)) links)

abbrev pub all_constant : List Entry → List Expr → Bool
all_constant names parts = list_all (λ part. part) (map (is_constant names) parts)

-- It is counted of this expression.
pub record IsCounted (names : List Entry) (x : Expr) (r : Counted) : Type 0 where
  pub stands : Stands r (weighed names (weighing names x))
  pub constant : r.is_constant ≡ is_constant names x

-- of a chain whose first operand this is counted of
pub record IsChain (names : List Entry) (first : Counted) (links : List (BinaryOperator × Expr)) (r : Counted) : Type 0 where
  pub stands : (s : Weighed) → Stands first s → Stands r (weighed_chain names s (link_weighings names links))
  pub constant : r.is_constant ≡ (first.is_constant && links_constant names links)

-- of parts side by side
abbrev pub side_by_side : List Entry → List Expr → Weighed
side_by_side names parts = record { width = sum (map (width_of names) parts); at = λ width. sum (map (weight_by_itself names) parts) }

pub record AreParts (names : List Entry) (parts : List Expr) (r : Counted) : Type 0 where
  pub stands : Stands r (side_by_side names parts)
  pub constant : r.is_constant ≡ all_constant names parts
