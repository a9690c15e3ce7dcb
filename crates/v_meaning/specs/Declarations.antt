-- The declared names of a module in text order, each with what is known of it (1364-2005, 4 and 12.3).
use Rattle.std.specs.Prelude.{ℕ, ◌==◌, List, [], ◌∷◌, ◌++◌, map, flat_map, fold, count_by, Bool, true, false, ◌&&◌, ◌||◌, if◌then◌else◌, min, max, Option, None, Some, is_some, bytes_eq}
use Rattle.lz_base.specs.Names.{is_among}
use Rattle.v_syntax.specs.declared.token.Ident.{Ident}
use Rattle.v_syntax.specs.declared.expr.Expr.{Expr}
use Rattle.v_syntax.specs.declared.expr.Placed.{Placed}
use Rattle.v_syntax.specs.declared.expr.Range.{Range}
use Rattle.v_syntax.specs.declared.stmt.Target.{Target}
use Rattle.v_syntax.specs.declared.stmt.Target.TheOpen.{Target-F}
use Rattle.v_syntax.specs.declared.stmt.Target.TheOpen as t
use Rattle.v_syntax.specs.declared.stmt.Target.TheFolds.{fold-Target}
use Rattle.v_syntax.specs.declared.stmt.AssignKind.{AssignKind}
use Rattle.v_syntax.specs.declared.stmt.Stmt.{Stmt}
use Rattle.v_syntax.specs.declared.stmt.Stmt.TheOpen.{Stmt-F, Arm-F}
use Rattle.v_syntax.specs.declared.stmt.Stmt.TheOpen as o
use Rattle.v_syntax.specs.declared.stmt.Stmt.TheFolds.{fold-Stmt}
use Rattle.v_syntax.specs.declared.module.Setting.{Setting}
use Rattle.v_syntax.specs.declared.module.Declared.{Declared}
use Rattle.v_syntax.specs.declared.module.Variable.{Variable}
use Rattle.v_syntax.specs.declared.module.Variable.TheVariants as v
use Rattle.v_syntax.specs.declared.module.ParameterGroup.{ParameterGroup}
use Rattle.v_syntax.specs.declared.module.PortGroup.{PortGroup}
use Rattle.v_syntax.specs.declared.module.PortKind.{PortKind}
use Rattle.v_syntax.specs.declared.module.PortKind.TheVariants as p
use Rattle.v_syntax.specs.declared.module.Event.TheVariants as w
use Rattle.v_syntax.specs.declared.module.Item.{Item}
use Rattle.v_syntax.specs.declared.module.Item.TheVariants as i
use Rattle.v_syntax.specs.declared.module.Module.{Module}
use Rattle.v_meaning.specs.Views.{no_view}
use Rattle.v_meaning.specs.Senses.{Sense, constant, assigned}
use Rattle.v_meaning.specs.declared.names.Kind.{Kind}
use Rattle.v_meaning.specs.declared.names.Entry.{Entry}
use Rattle.v_meaning.specs.Names.{or_zero, span}
use Rattle.v_meaning.specs.declared.names.Kind.TheVariants as k
use Rattle.v_meaning.specs.Expressions.{sense_of}

-- ---- what the processes make of names

-- an assignment in a process
pub record Assigned : Type 0 where
  pub target : Target
  pub kind : AssignKind

abbrev pub joined_lists : {A : Type 0} → List (List A) → List A
joined_lists xs = flat_map (λ x. x) xs

abbrev pub assigned_step : Stmt-F (List Assigned) (List Assigned) → List Assigned
assigned_step o.Null = []
assigned_step (o.Block body) = joined_lists body
assigned_step (o.If x one) = one
assigned_step (o.IfElse x one other) = one ++ other
assigned_step (o.Case kind subject arms) = joined_lists arms
assigned_step (o.Assign target kind value) = record { target = target; kind = kind } ∷ []

-- the assignments of a statement in text order
abbrev pub assigned_in : Stmt → List Assigned
assigned_in = fold-Stmt (List Assigned) (List Assigned) assigned_step (λ arm. arm.body)

abbrev pub idents_step : Target-F (List Ident) → List Ident
idents_step (t.Name n) = n ∷ []
idents_step (t.Select n bracket index) = n ∷ []
idents_step (t.Part n range) = n ∷ []
idents_step (t.Concat brace parts) = joined_lists parts

-- the names that are written, from left to right
abbrev pub idents_of : Target → List Ident
idents_of = fold-Target (List Ident) idents_step

abbrev pub target_names : Stmt → List (List ℕ)
target_names body = map (λ (n : Ident). n.name) (flat_map (λ (a : Assigned). idents_of a.target) (assigned_in body))

-- The name in the first posedge event of the text, and the names of the targets in combinational processes (9.7.2 and
-- 9.7.5).
pub record Roles : Type 0 where
  pub event : Option (List ℕ)
  pub combinational : List (List ℕ)

abbrev pub first_event : List Item → Option (List ℕ)
first_event [] = None
first_event (i.Always (w.Posedge event) body ∷ items) = Some event.name
first_event (_ ∷ items) = first_event items

abbrev pub combinational_names : List Item → List (List ℕ)
combinational_names [] = []
combinational_names (i.Always w.Any body ∷ items) = target_names body ++ combinational_names items
combinational_names (_ ∷ items) = combinational_names items

abbrev pub roles_of : List Item → Roles
roles_of items = record { event = first_event items; combinational = combinational_names items }

-- ---- ranges

-- the number that a constant expression stands for, over the names before it
abbrev pub constant_value : List Entry → Expr → Option ℕ
constant_value names x = constant (sense_of names [] x)

abbrev pub bound : List Entry → Placed → ℕ
bound names x = or_zero (constant_value names x.expr)

-- a name without a range is a scalar of one bit (4.3)
abbrev pub range_width : List Entry → Option Range → ℕ
range_width names None = 1
range_width names (Some r) = span (bound names r.msb) (bound names r.lsb)

abbrev pub range_low : List Entry → Option Range → ℕ
range_low names None = 0
range_low names (Some r) = bound names r.lsb

-- addresses may be written in either direction (4.9)
abbrev pub lowest_address : List Entry → Range → ℕ
lowest_address names r = min (bound names r.msb) (bound names r.lsb)

abbrev pub address_count : List Entry → Range → ℕ
address_count names r = span (max (bound names r.msb) (bound names r.lsb)) (lowest_address names r)

-- ---- entries, over the names before them

abbrev pub entry : List Entry → Bool → Option Range → Ident → Kind → Option ℕ → Entry
entry names signed range name kind first = record {
  name = name.name;
  at = name.at;
  kind = kind;
  width = range_width names range;
  signed = signed;
  low = range_low names range;
  is_vector = is_some range;
  first = first;
}

-- A parameter without a range has the width of its value; without a range and a sign it has its sign too (4.10.1).
abbrev pub parameter_width : List Entry → Option Range → Sense → ℕ
parameter_width names None x = x.width
parameter_width names (Some r) x = range_width names (Some r)

abbrev pub parameter_sign : Bool → Option Range → Sense → Bool
parameter_sign signed None x = signed || x.signed
parameter_sign signed (Some r) x = signed

-- The value is evaluated and cut as in an assignment.
abbrev pub parameter_over : List Entry → ParameterGroup → Ident → Sense → Entry
parameter_over names group name x = record {
  name = name.name;
  at = name.at;
  kind = k.Parameter (assigned (parameter_width names group.range x) x no_view);
  width = parameter_width names group.range x;
  signed = parameter_sign group.signed group.range x;
  low = range_low names group.range;
  is_vector = is_some group.range;
  first = None;
}

abbrev pub parameter_entry : List Entry → ParameterGroup → Setting → Entry
parameter_entry names group s = parameter_over names group s.name (sense_of names [] s.value.expr)

abbrev pub is_input : Kind → Bool
is_input (k.Input n) = true
is_input _ = false

-- nets and combinational variables settle together
abbrev pub is_settled : Kind → Bool
is_settled (k.Net n) = true
is_settled (k.Combinational n) = true
is_settled _ = false

abbrev pub is_variable : Kind → Bool
is_variable (k.Variable n) = true
is_variable _ = false

abbrev pub is_memory : Kind → Bool
is_memory (k.Memory n low count) = true
is_memory _ = false

-- how many of this kind are declared before
abbrev pub count_of : (Kind → Bool) → List Entry → ℕ
count_of test names = count_by (λ (e : Entry). test e.kind) names

abbrev pub is_event : Option (List ℕ) → List ℕ → Bool
is_event None name = false
is_event (Some event) name = bytes_eq event name

-- the clock is the name in the first event, where that is an input of width 1
abbrev pub input_kind : Roles → List Entry → Option Range → List ℕ → Kind
input_kind roles names range name =
    if is_event roles.event name && range_width names range == 1 then k.Clock else k.Input (count_of is_input names)

abbrev pub net_kind : List Entry → Kind
net_kind names = k.Net (count_of is_settled names)

abbrev pub variable_kind : Roles → List Entry → List ℕ → Kind
variable_kind roles names name =
    if is_among name roles.combinational then k.Combinational (count_of is_settled names) else k.Variable (count_of is_variable names)

-- an initialiser is assigned before the first cycle (6.2.1)
abbrev pub first_value : List Entry → Option Range → Option Placed → Option ℕ
first_value names range None = None
first_value names range (Some x) = Some (assigned (range_width names range) (sense_of names [] x.expr) no_view)

abbrev pub port_kind : Roles → List Entry → PortKind → Option Range → List ℕ → Kind
port_kind roles names p.Input range name = input_kind roles names range name
port_kind roles names p.Output range name = net_kind names
port_kind roles names p.OutputReg range name = variable_kind roles names name

abbrev pub port_entry : Roles → List Entry → PortGroup → Declared → Entry
port_entry roles names group d =
    entry names group.signed group.range d.name (port_kind roles names group.kind group.range d.name.name) (first_value names group.range d.value)

abbrev pub wire_entry : List Entry → Bool → Option Range → Declared → Entry
wire_entry names signed range d = entry names signed range d.name (net_kind names) None

abbrev pub variable_entry : Roles → List Entry → Bool → Option Range → Variable → Entry
variable_entry roles names signed range (v.Plain d) =
    entry names signed range d.name (variable_kind roles names d.name.name) (first_value names range d.value)
variable_entry roles names signed range (v.Memory name addresses) =
    entry names signed range name (k.Memory (count_of is_memory names) (lowest_address names addresses) (address_count names addresses)) None

-- ---- the names of a module

-- the names before a declaration, and behind it
abbrev pub behind_parameters : List Entry → ParameterGroup → List Entry
behind_parameters names group = fold (λ names s. names ++ parameter_entry names group s ∷ []) names group.settings

abbrev pub behind_ports : Roles → List Entry → PortGroup → List Entry
behind_ports roles names group = fold (λ names d. names ++ port_entry roles names group d ∷ []) names group.ports

abbrev pub behind_item : Roles → List Entry → Item → List Entry
behind_item roles names (i.Parameters group) = behind_parameters names group
behind_item roles names (i.LocalParameters group) = behind_parameters names group
behind_item roles names (i.Wires signed range nets) = fold (λ names d. names ++ wire_entry names signed range d ∷ []) names nets
behind_item roles names (i.Regs signed range variables) = fold (λ names d. names ++ variable_entry roles names signed range d ∷ []) names variables
behind_item roles names (i.Assigns settings) = names
behind_item roles names (i.Always event body) = names

abbrev pub behind_header : Roles → Module → List Entry
behind_header roles m = fold (behind_ports roles) (fold behind_parameters [] m.parameters) m.ports

abbrev pub names_of : Module → List Entry
names_of m = fold (behind_item (roles_of m.items)) (behind_header (roles_of m.items) m) m.items
