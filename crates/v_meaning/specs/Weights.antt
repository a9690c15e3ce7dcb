-- The weight of a module: how much there is to build, as a sum over its parts.
use Rattle.std.specs.Prelude.{ℕ, ◌+◌, ◌*◌, List, [], ◌∷◌, map, sum, Bool, true, false, if◌then◌else◌, max, Option, None, Some, length}
use Rattle.v_syntax.specs.declared.token.Ident.{Ident}
use Rattle.v_syntax.specs.declared.expr.Expr.{Expr}
use Rattle.v_syntax.specs.declared.expr.Expr.TheOpen.{Expr-F}
use Rattle.v_syntax.specs.declared.expr.Expr.TheOpen as o
use Rattle.v_syntax.specs.declared.expr.Expr.TheFolds.{para-Expr}
use Rattle.v_syntax.specs.declared.expr.Placed.{Placed}
use Rattle.v_syntax.specs.declared.expr.BinaryOperator.{BinaryOperator}
use Rattle.v_syntax.specs.declared.expr.BinaryOperator.TheVariants as b
use Rattle.v_syntax.specs.declared.stmt.Target.{Target}
use Rattle.v_syntax.specs.declared.stmt.Target.TheOpen.{Target-F}
use Rattle.v_syntax.specs.declared.stmt.Target.TheOpen as t
use Rattle.v_syntax.specs.declared.stmt.Target.TheFolds.{fold-Target}
use Rattle.v_syntax.specs.declared.stmt.Label.{Label}
use Rattle.v_syntax.specs.declared.stmt.Stmt.{Stmt}
use Rattle.v_syntax.specs.declared.stmt.Stmt.TheOpen.{Stmt-F, Arm-F}
use Rattle.v_syntax.specs.declared.stmt.Stmt.TheOpen as s
use Rattle.v_syntax.specs.declared.stmt.Stmt.TheFolds.{fold-Stmt}
use Rattle.v_syntax.specs.declared.module.Setting.{Setting}
use Rattle.v_syntax.specs.declared.module.Declared.{Declared}
use Rattle.v_syntax.specs.declared.module.Item.{Item}
use Rattle.v_syntax.specs.declared.module.Item.TheVariants as i
use Rattle.v_meaning.specs.Senses.{Class, Shared, Compared, Shifted, Logical, class_of, is_through}
use Rattle.v_meaning.specs.declared.names.Kind.{Kind}
use Rattle.v_meaning.specs.declared.names.Entry.{Entry}
use Rattle.v_meaning.specs.Names.{entry_of}
use Rattle.v_meaning.specs.declared.names.Kind.TheVariants as k
use Rattle.v_meaning.specs.Expressions.{is_constant}
use Rattle.v_meaning.specs.Statements.{comparison_of, all_items}
use Rattle.v_meaning.specs.Targets.{target_of}
use Rattle.v_meaning.specs.Sites.{is_fixed}
use Rattle.v_meaning.specs.Proper.{width_of}

-- an operand beside its weight at a final width
abbrev pub Weighing : Type 0
Weighing = Expr × (ℕ → ℕ)

-- an expression by its own width, and its weight at a final width
pub record Weighed : Type 0 where
  pub width : ℕ
  pub at : ℕ → ℕ

abbrev pub weighed : List Entry → Weighing → Weighed
weighed names x = record { width = width_of names x.0; at = x.1 }

-- what determines its width itself
abbrev pub own_weight : Weighed → ℕ
own_weight x = x.at x.width

-- ---- operators

-- at the final width
abbrev pub shared_weight : BinaryOperator → ℕ → ℕ
shared_weight b.Multiply width = width * width
shared_weight _ width = width

-- whether the right operand is a constant expression says what a shift weighs
abbrev pub weighed_by : Class → BinaryOperator → Bool → Weighed → Weighed → Weighed
weighed_by Shared op fixed x y = record { width = max x.width y.width; at = λ width. shared_weight op width + x.at width + y.at width }
weighed_by Compared op fixed x y =
    record { width = 1; at = λ width. max x.width y.width + x.at (max x.width y.width) + y.at (max x.width y.width) }
weighed_by Shifted op fixed x y =
    record { width = x.width; at = λ width. (if fixed then 0 else width * y.width) + x.at width + own_weight y }
weighed_by Logical op fixed x y = record { width = 1; at = λ width. x.width + y.width + own_weight x + own_weight y }

abbrev pub weighed_chain : List Entry → Weighed → List (BinaryOperator × Weighing) → Weighed
weighed_chain names x [] = x
weighed_chain names x (link ∷ links) =
    weighed_chain names (weighed_by (class_of link.0) link.0 (is_constant names link.1.0) x (weighed names link.1)) links

abbrev pub through_weight : Bool → Weighed → ℕ → ℕ
through_weight true x width = width + x.at width
through_weight false x width = x.width + own_weight x

-- ---- expressions

-- how many bits a variable or memory has
abbrev pub size_in : Kind → Entry → ℕ
size_in (k.Memory n low count) e = count * e.width
size_in kind e = e.width

abbrev pub size_of : Entry → ℕ
size_of e = size_in e.kind e

abbrev pub parts_weight : List Entry → List Weighing → ℕ
parts_weight names [] = 0
parts_weight names (x ∷ xs) = own_weight (weighed names x) + parts_weight names xs

abbrev pub weight_step : List Entry → Expr-F Weighing → ℕ → ℕ
weight_step names (o.Number n) width = 0
weight_step names (o.Name n) width = 0
weight_step names (o.Select n bracket index) width =
    (if is_fixed names (entry_of names n.name) index.0 then 0 else size_of (entry_of names n.name)) + own_weight (weighed names index)
weight_step names (o.Part n bracket msb_at msb lsb_at lsb) width = 0
weight_step names (o.Unary op x) width = through_weight (is_through op) (weighed names x) width
weight_step names (o.Chain x links) width = (weighed_chain names (weighed names x) links).at width
weight_step names (o.Conditional c x y) width = width + width_of names c.0 + own_weight (weighed names c) + x.1 width + y.1 width
weight_step names (o.Concat brace parts) width = parts_weight names parts
weight_step names (o.Replicate brace count_at count inner parts) width = parts_weight names parts
weight_step names (o.Cast sign x) width = own_weight (weighed names x)

-- the weight of an expression at a final width
abbrev pub weight_at : List Entry → Expr → ℕ → ℕ
weight_at names = para-Expr (ℕ → ℕ) (weight_step names)

abbrev pub weight_by_itself : List Entry → Expr → ℕ
weight_by_itself names x = weight_at names x (width_of names x)

-- ---- statements

-- the size of a whole target, and the weight of its indices
pub record TargetWeight : Type 0 where
  pub size : ℕ
  pub indices : ℕ

abbrev pub sizes : List TargetWeight → ℕ
sizes ts = sum (map (λ (t : TargetWeight). t.size) ts)

abbrev pub indices_weight : List TargetWeight → ℕ
indices_weight ts = sum (map (λ (t : TargetWeight). t.indices) ts)

abbrev pub target_weight_step : List Entry → Target-F TargetWeight → TargetWeight
target_weight_step names (t.Name n) = record { size = size_of (entry_of names n.name); indices = 0 }
target_weight_step names (t.Select n bracket index) = record { size = size_of (entry_of names n.name); indices = weight_by_itself names index }
target_weight_step names (t.Part n range) = record { size = size_of (entry_of names n.name); indices = 0 }
target_weight_step names (t.Concat brace parts) = record { size = sizes parts; indices = indices_weight parts }

abbrev pub target_weight : List Entry → Target → TargetWeight
target_weight names = fold-Target TargetWeight (target_weight_step names)

-- an arm: its label, and the weight of its body in so many if and case statements
pub record ArmWeight : Type 0 where
  pub label : Label
  pub body : ℕ → ℕ

abbrev pub labels_in : List ArmWeight → List Label
labels_in arms = map (λ (a : ArmWeight). a.label) arms

abbrev pub bodies_weight : List ArmWeight → ℕ → ℕ
bodies_weight [] depth = 0
bodies_weight (a ∷ arms) depth = a.body depth + bodies_weight arms depth

-- the common width for each item, and all expressions at it
abbrev pub case_weight : List Entry → Expr → List Label → ℕ → ℕ
case_weight names subject labels width =
    length (all_items labels) * width + weight_at names subject width + sum (map (λ x. weight_at names x width) (all_items labels))

abbrev pub assign_weight : List Entry → TargetWeight → ℕ → Expr → ℕ → ℕ
assign_weight names target width value depth =
    target.size * (depth + 1) + target.indices + weight_at names value (max width (width_of names value))

abbrev pub block_weight : List (ℕ → ℕ) → ℕ → ℕ
block_weight [] depth = 0
block_weight (x ∷ xs) depth = x depth + block_weight xs depth

abbrev pub condition_weight : List Entry → Expr → ℕ
condition_weight names x = width_of names x + weight_by_itself names x

abbrev pub stmt_weight_step : List Entry → Stmt-F (ℕ → ℕ) ArmWeight → ℕ → ℕ
stmt_weight_step names s.Null depth = 0
stmt_weight_step names (s.Block body) depth = block_weight body depth
stmt_weight_step names (s.If x one) depth = condition_weight names x + one (depth + 1)
stmt_weight_step names (s.IfElse x one other) depth = condition_weight names x + one (depth + 1) + other (depth + 1)
stmt_weight_step names (s.Case kind subject arms) depth =
    case_weight names subject (labels_in arms) (comparison_of names [] subject (labels_in arms)).width + bodies_weight arms (depth + 1)
stmt_weight_step names (s.Assign target kind value) depth =
    assign_weight names (target_weight names target) (target_of names [] target).width value depth

-- the weight of a statement that so many if and case statements enclose
abbrev pub stmt_weight : List Entry → Stmt → ℕ → ℕ
stmt_weight names = fold-Stmt (ℕ → ℕ) ArmWeight (stmt_weight_step names) (λ arm. record { label = arm.label; body = arm.body })

-- ---- modules

abbrev pub declared_weight : Entry → ℕ
declared_weight e = in_kind e.kind e
  where
    in_kind : Kind → Entry → ℕ
    in_kind (k.Combinational n) e = e.width
    in_kind (k.Variable n) e = e.width
    in_kind (k.Memory n low count) e = count * e.width
    in_kind _ e = 0

-- the net's width, and the expression at the greater of both
abbrev pub net_weight : List Entry → Ident → Expr → ℕ
net_weight names n x = (entry_of names n.name).width + weight_at names x (max (entry_of names n.name).width (width_of names x))

abbrev pub wire_weight : List Entry → Ident → Option Placed → ℕ
wire_weight names n None = 0
wire_weight names n (Some x) = net_weight names n x.expr

abbrev pub item_weight : List Entry → Item → ℕ
item_weight names (i.Wires signed range nets) = sum (map (λ (d : Declared). wire_weight names d.name d.value) nets)
item_weight names (i.Assigns settings) = sum (map (λ (s : Setting). net_weight names s.name s.value.expr) settings)
item_weight names (i.Always event body) = stmt_weight names body 0
item_weight names _ = 0

abbrev pub weight_of : List Entry → List Item → ℕ
weight_of names items = sum (map declared_weight names) + sum (map (item_weight names) items)
