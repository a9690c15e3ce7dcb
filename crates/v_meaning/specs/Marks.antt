-- What the rules of declarations and expressions look at, in text order: each name as it is declared or used, each number,
-- each concatenation.
use Rattle.std.specs.Prelude.{ℕ, ◌+◌, List, [], ◌∷◌, ◌++◌, map, flat_map, Bool, true, false, ◌||◌, if◌then◌else◌, Option, None, Some}
use Rattle.std.specs.List.{list_all}
use Rattle.v_syntax.specs.declared.token.Ident.{Ident}
use Rattle.v_syntax.specs.declared.expr.Expr.{Expr}
use Rattle.v_syntax.specs.declared.expr.Expr.TheOpen.{Expr-F}
use Rattle.v_syntax.specs.declared.expr.Expr.TheOpen as o
use Rattle.v_syntax.specs.declared.expr.Expr.TheFolds.{para-Expr}
use Rattle.v_syntax.specs.declared.expr.Number.{Number}
use Rattle.v_syntax.specs.declared.expr.Placed.{Placed}
use Rattle.v_syntax.specs.declared.expr.Range.{Range}
use Rattle.v_syntax.specs.declared.expr.BinaryOperator.{BinaryOperator}
use Rattle.v_syntax.specs.declared.stmt.Target.{Target}
use Rattle.v_syntax.specs.declared.stmt.Target.TheOpen.{Target-F}
use Rattle.v_syntax.specs.declared.stmt.Target.TheOpen as t
use Rattle.v_syntax.specs.declared.stmt.Target.TheFolds.{para-Target}
use Rattle.v_syntax.specs.declared.stmt.Label.{Label}
use Rattle.v_syntax.specs.declared.stmt.Label.TheVariants as l
use Rattle.v_syntax.specs.declared.stmt.CaseKind.{CaseKind}
use Rattle.v_syntax.specs.declared.stmt.CaseKind.TheVariants as c
use Rattle.v_syntax.specs.declared.stmt.Stmt.{Stmt}
use Rattle.v_syntax.specs.declared.stmt.Stmt.TheOpen.{Stmt-F, Arm-F}
use Rattle.v_syntax.specs.declared.stmt.Stmt.TheOpen as s
use Rattle.v_syntax.specs.declared.stmt.Stmt.TheFolds.{fold-Stmt}
use Rattle.v_syntax.specs.declared.module.Setting.{Setting}
use Rattle.v_syntax.specs.declared.module.Declared.{Declared}
use Rattle.v_syntax.specs.declared.module.Variable.{Variable}
use Rattle.v_syntax.specs.declared.module.Variable.TheVariants as v
use Rattle.v_syntax.specs.declared.module.ParameterGroup.{ParameterGroup}
use Rattle.v_syntax.specs.declared.module.PortGroup.{PortGroup}
use Rattle.v_syntax.specs.declared.module.Event.{Event}
use Rattle.v_syntax.specs.declared.module.Event.TheVariants as w
use Rattle.v_syntax.specs.declared.module.Item.{Item}
use Rattle.v_syntax.specs.declared.module.Item.TheVariants as i
use Rattle.v_syntax.specs.declared.module.Module.{Module}
use Rattle.v_meaning.specs.Literals.{is_unsized}
use Rattle.v_meaning.specs.declared.names.Entry.{Entry}
use Rattle.v_meaning.specs.Expressions.{number_by_itself}
use Rattle.v_meaning.specs.Targets.{target_of}
use Rattle.v_meaning.specs.Declarations.{joined_lists}
use Rattle.v_meaning.specs.Proper.{proper_value, bits_if, concat_bits, replicated_bits, is_definite_target}

-- how a name is used: by itself; with an index; with these bounds, of which None is one with no proper value
pub data Form : Type 0 where
  Bare : Form
  Indexed : Form
  PartOf : Option ℕ → Option ℕ → Form

pub data Mark : Type 0 where
  Declares : Ident → Mark  -- a name is declared
  Valued : Ident → Mark  -- the value of a parameter ends
  Used : Form → Ident → Mark
  Digits : Bool → Number → Mark  -- a number, and whether it is by itself an item of a casez
  UnsizedPart : ℕ → Mark  -- a number without a size is a part of a concatenation or replication
  Joined : Option ℕ → ℕ → Mark  -- a concatenation or replication: its width, where that is definite, and its brace
  Again : ℕ → Mark  -- a default behind another one

-- ---- expressions

abbrev pub unsized_number : Option Number → List Mark
unsized_number None = []
unsized_number (Some n) = if is_unsized n.spelling then UnsizedPart n.at ∷ [] else []

abbrev pub parts_marks : List (Expr × List Mark) → List Mark
parts_marks [] = []
parts_marks (x ∷ xs) = unsized_number (number_by_itself x.0) ++ x.1 ++ parts_marks xs

abbrev pub links_marks : List (BinaryOperator × (Expr × List Mark)) → List Mark
links_marks [] = []
links_marks (link ∷ links) = link.1.1 ++ links_marks links

abbrev pub operands : List (Expr × List Mark) → List Expr
operands xs = map (λ x. x.0) xs

abbrev pub mark_step : List Entry → Expr-F (Expr × List Mark) → List Mark
mark_step names (o.Number n) = Digits false n ∷ []
mark_step names (o.Name n) = Used Bare n ∷ []
mark_step names (o.Select n bracket index) = Used Indexed n ∷ index.1
mark_step names (o.Part n bracket msb_at msb lsb_at lsb) = Used (PartOf (proper_value names msb.0) (proper_value names lsb.0)) n ∷ msb.1 ++ lsb.1
mark_step names (o.Unary op x) = x.1
mark_step names (o.Chain x links) = x.1 ++ links_marks links
mark_step names (o.Conditional c x y) = c.1 ++ x.1 ++ y.1
mark_step names (o.Concat brace parts) = Joined (concat_bits names (operands parts)) brace ∷ parts_marks parts
mark_step names (o.Replicate brace count_at count inner parts) =
    Joined (replicated_bits names count.0 (operands parts)) brace ∷ count.1 ++ parts_marks parts
mark_step names (o.Cast sign x) = x.1

abbrev pub marks_of : List Entry → Expr → List Mark
marks_of names = para-Expr (List Mark) (mark_step names)

abbrev pub placed_marks : List Entry → Option Placed → List Mark
placed_marks names None = []
placed_marks names (Some x) = marks_of names x.expr

abbrev pub range_marks : List Entry → Option Range → List Mark
range_marks names None = []
range_marks names (Some r) = marks_of names r.msb.expr ++ marks_of names r.lsb.expr

-- ---- statements

abbrev pub targets_marks : List (Target × List Mark) → List Mark
targets_marks [] = []
targets_marks (x ∷ xs) = x.1 ++ targets_marks xs

abbrev pub targets_width : List Entry → List Target → ℕ
targets_width names [] = 0
targets_width names (x ∷ xs) = (target_of names [] x).width + targets_width names xs

-- how many bits targets have together, where they are definite
abbrev pub joined_targets_bits : List Entry → List Target → Option ℕ
joined_targets_bits names xs = bits_if (list_all (is_definite_target names) xs) (targets_width names xs)

abbrev pub targets_bits : List Entry → List (Target × List Mark) → Option ℕ
targets_bits names xs = joined_targets_bits names (map (λ x. x.0) xs)

abbrev pub target_mark_step : List Entry → Target-F (Target × List Mark) → List Mark
target_mark_step names (t.Name n) = Used Bare n ∷ []
target_mark_step names (t.Select n bracket index) = Used Indexed n ∷ marks_of names index
target_mark_step names (t.Part n r) =
    Used (PartOf (proper_value names r.msb.expr) (proper_value names r.lsb.expr)) n ∷ range_marks names (Some r)
target_mark_step names (t.Concat brace parts) = Joined (targets_bits names parts) brace ∷ targets_marks parts

abbrev pub target_marks : List Entry → Target → List Mark
target_marks names = para-Target (List Mark) (target_mark_step names)

-- an item of a casez that is a number by itself may hold z
abbrev pub item_digits : Option Number → List Mark → List Mark
item_digits None marks = marks
item_digits (Some n) marks = Digits true n ∷ []

abbrev pub item_marks : List Entry → CaseKind → Expr → List Mark
item_marks names c.Case x = marks_of names x
item_marks names c.Casez x = item_digits (number_by_itself x) (marks_of names x)

-- an arm: its label, and the marks of its body
pub record ArmMarks : Type 0 where
  pub label : Label
  pub body : List Mark

abbrev pub label_marks : List Entry → CaseKind → Bool → Label → List Mark
label_marks names kind met (l.Items xs) = flat_map (item_marks names kind) xs
label_marks names kind met (l.Default at) = if met then Again at ∷ [] else []

abbrev pub is_default : Label → Bool
is_default (l.Items xs) = false
is_default (l.Default at) = true

abbrev pub arms_marks : List Entry → CaseKind → Bool → List ArmMarks → List Mark
arms_marks names kind met [] = []
arms_marks names kind met (a ∷ arms) = label_marks names kind met a.label ++ a.body ++ arms_marks names kind (met || is_default a.label) arms

abbrev pub stmt_mark_step : List Entry → Stmt-F (List Mark) ArmMarks → List Mark
stmt_mark_step names s.Null = []
stmt_mark_step names (s.Block body) = joined_lists body
stmt_mark_step names (s.If x one) = marks_of names x ++ one
stmt_mark_step names (s.IfElse x one other) = marks_of names x ++ one ++ other
stmt_mark_step names (s.Case kind subject arms) = marks_of names subject ++ arms_marks names kind false arms
stmt_mark_step names (s.Assign target kind value) = target_marks names target ++ marks_of names value

abbrev pub stmt_marks : List Entry → Stmt → List Mark
stmt_marks names = fold-Stmt (List Mark) ArmMarks (stmt_mark_step names) (λ arm. record { label = arm.label; body = arm.body })

-- ---- modules

abbrev pub setting_marks : List Entry → Setting → List Mark
setting_marks names s = Declares s.name ∷ marks_of names s.value.expr ++ Valued s.name ∷ []

abbrev pub parameter_marks : List Entry → ParameterGroup → List Mark
parameter_marks names group = range_marks names group.range ++ flat_map (setting_marks names) group.settings

abbrev pub declared_marks : List Entry → Declared → List Mark
declared_marks names d = Declares d.name ∷ placed_marks names d.value

abbrev pub port_marks : List Entry → PortGroup → List Mark
port_marks names group = range_marks names group.range ++ flat_map (declared_marks names) group.ports

abbrev pub variable_marks : List Entry → Variable → List Mark
variable_marks names (v.Plain d) = declared_marks names d
variable_marks names (v.Memory name addresses) = Declares name ∷ range_marks names (Some addresses)

abbrev pub assign_marks : List Entry → Setting → List Mark
assign_marks names s = Used Bare s.name ∷ marks_of names s.value.expr

abbrev pub event_marks : Event → List Mark
event_marks (w.Posedge name) = Used Bare name ∷ []
event_marks w.Any = []

abbrev pub module_item_marks : List Entry → Item → List Mark
module_item_marks names (i.Parameters group) = parameter_marks names group
module_item_marks names (i.LocalParameters group) = parameter_marks names group
module_item_marks names (i.Wires signed range nets) = range_marks names range ++ flat_map (declared_marks names) nets
module_item_marks names (i.Regs signed range variables) = range_marks names range ++ flat_map (variable_marks names) variables
module_item_marks names (i.Assigns settings) = flat_map (assign_marks names) settings
module_item_marks names (i.Always event body) = event_marks event ++ stmt_marks names body

-- the marks of a module, over its declared names
abbrev pub module_marks : List Entry → Module → List Mark
module_marks names m =
    flat_map (parameter_marks names) m.parameters ++ flat_map (port_marks names) m.ports ++ flat_map (module_item_marks names) m.items
