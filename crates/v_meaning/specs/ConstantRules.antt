-- E7: a parameter value, initialiser, range, replication count or bound that has no proper value (1364-2005, 4.3, 4.9,
-- 4.10.1, 5.2.1 and 5.1.14). The constant expressions and ranges are walked in text order up to the first fault, each over
-- the names that are declared before it: a use of a later parameter breaks an earlier rule.
use Rattle.std.specs.Prelude.{ℕ, List, [], ◌∷◌, ◌++◌, flat_map, take, Bool, false, not, ◌&&◌, nat_le, min, max, Option, None, Some}
use Rattle.v_syntax.specs.declared.expr.Expr.{Expr}
use Rattle.v_syntax.specs.declared.expr.Expr.TheOpen.{Expr-F}
use Rattle.v_syntax.specs.declared.expr.Expr.TheOpen as o
use Rattle.v_syntax.specs.declared.expr.Expr.TheFolds.{para-Expr}
use Rattle.v_syntax.specs.declared.expr.Placed.{Placed}
use Rattle.v_syntax.specs.declared.expr.Range.{Range}
use Rattle.v_syntax.specs.declared.expr.BinaryOperator.{BinaryOperator}
use Rattle.v_syntax.specs.declared.stmt.Target.{Target}
use Rattle.v_syntax.specs.declared.stmt.Target.TheOpen.{Target-F}
use Rattle.v_syntax.specs.declared.stmt.Target.TheOpen as t
use Rattle.v_syntax.specs.declared.stmt.Target.TheFolds.{fold-Target}
use Rattle.v_syntax.specs.declared.stmt.Stmt.{Stmt}
use Rattle.v_syntax.specs.declared.stmt.Stmt.TheOpen.{Stmt-F, Arm-F}
use Rattle.v_syntax.specs.declared.stmt.Stmt.TheOpen as s
use Rattle.v_syntax.specs.declared.stmt.Stmt.TheFolds.{fold-Stmt}
use Rattle.v_syntax.specs.declared.module.Setting.{Setting}
use Rattle.v_syntax.specs.declared.module.Declared.{Declared}
use Rattle.v_syntax.specs.declared.module.Variable.{Variable}
use Rattle.v_syntax.specs.declared.module.Variable.TheVariants as v
use Rattle.v_syntax.specs.declared.module.ParameterGroup.{ParameterGroup}
use Rattle.v_syntax.specs.declared.module.PortGroup.{PortGroup}
use Rattle.v_syntax.specs.declared.module.Item.{Item}
use Rattle.v_syntax.specs.declared.module.Item.TheVariants as i
use Rattle.v_syntax.specs.declared.module.Module.{Module}
use Rattle.v_meaning.specs.declared.names.Entry.{Entry}
use Rattle.v_meaning.specs.Names.{span}
use Rattle.v_meaning.specs.Statements.{label_items}
use Rattle.v_meaning.specs.Declarations.{joined_lists, constant_value, Roles, roles_of, parameter_entry, behind_parameters, behind_ports, behind_item}
use Rattle.v_meaning.specs.Proper.{is_proper, is_count}
use Rattle.v_meaning.specs.MarkRules.{place_if}

-- ---- faults in declarations: the first byte of an expression, or the bracket of a range

abbrev pub value_fault : List Entry → Placed → List ℕ
value_fault names x = place_if (not (is_proper names x.expr)) x.at

abbrev pub optional_fault : List Entry → Option Placed → List ℕ
optional_fault names None = []
optional_fault names (Some x) = value_fault names x

-- 0 <= lsb <= msb <= 65535, of at most 128 bits
abbrev pub is_vector_range : Option ℕ → Option ℕ → Bool
is_vector_range (Some msb) (Some lsb) = nat_le lsb msb && nat_le msb 65535 && nat_le (span msb lsb) 128
is_vector_range _ _ = false

-- bounds up to 65535, with at most 4096 words between them
abbrev pub is_address_range : Option ℕ → Option ℕ → Bool
is_address_range (Some msb) (Some lsb) = nat_le msb 65535 && nat_le lsb 65535 && nat_le (span (max msb lsb) (min msb lsb)) 4096
is_address_range _ _ = false

-- both bounds, and then the range itself
abbrev pub range_faults : (Option ℕ → Option ℕ → Bool) → List Entry → Range → List ℕ
range_faults is_range names r =
    value_fault names r.msb ++ value_fault names r.lsb
    ++ place_if (not (is_range (constant_value names r.msb.expr) (constant_value names r.lsb.expr))) r.bracket

abbrev pub vector_faults : List Entry → Option Range → List ℕ
vector_faults names None = []
vector_faults names (Some r) = range_faults is_vector_range names r

-- each value over the names before it
abbrev pub settings_faults : List Entry → ParameterGroup → List Setting → List ℕ
settings_faults names group [] = []
settings_faults names group (s ∷ more) = value_fault names s.value ++ settings_faults (names ++ parameter_entry names group s ∷ []) group more

abbrev pub parameter_faults : List Entry → ParameterGroup → List ℕ
parameter_faults names group = vector_faults names group.range ++ settings_faults names group group.settings

abbrev pub port_faults : List Entry → PortGroup → List ℕ
port_faults names group = vector_faults names group.range ++ flat_map (λ (d : Declared). optional_fault names d.value) group.ports

abbrev pub variable_faults : List Entry → Variable → List ℕ
variable_faults names (v.Plain d) = optional_fault names d.value
variable_faults names (v.Memory name addresses) = range_faults is_address_range names addresses

-- ---- faults in other expressions: counts and bounds

abbrev pub faulty_at : Bool → ℕ → List ℕ
faulty_at proper at = place_if (not proper) at

-- an operand beside its faults
abbrev pub Walked : Type 0
Walked = Expr × List ℕ

abbrev pub faults_in : List Walked → List ℕ
faults_in xs = flat_map (λ (x : Walked). x.1) xs

abbrev pub fault_step : List Entry → Expr-F Walked → List ℕ
fault_step names (o.Number n) = []
fault_step names (o.Name n) = []
fault_step names (o.Select n bracket index) = index.1
fault_step names (o.Part n bracket msb_at msb lsb_at lsb) = faulty_at (is_proper names msb.0) msb_at ++ faulty_at (is_proper names lsb.0) lsb_at
fault_step names (o.Unary op x) = x.1
fault_step names (o.Chain x links) = x.1 ++ flat_map (λ (link : BinaryOperator × Walked). link.1.1) links
fault_step names (o.Conditional c x y) = c.1 ++ x.1 ++ y.1
fault_step names (o.Concat brace parts) = faults_in parts
fault_step names (o.Replicate brace count_at count inner parts) = faulty_at (is_count names count.0) count_at ++ faults_in parts
fault_step names (o.Cast sign x) = x.1

abbrev pub expr_faults : List Entry → Expr → List ℕ
expr_faults names = para-Expr (List ℕ) (fault_step names)

abbrev pub target_fault_step : List Entry → Target-F (List ℕ) → List ℕ
target_fault_step names (t.Name n) = []
target_fault_step names (t.Select n bracket index) = expr_faults names index
target_fault_step names (t.Part n r) = value_fault names r.msb ++ value_fault names r.lsb
target_fault_step names (t.Concat brace parts) = joined_lists parts

abbrev pub target_faults : List Entry → Target → List ℕ
target_faults names = fold-Target (List ℕ) (target_fault_step names)

abbrev pub stmt_fault_step : List Entry → Stmt-F (List ℕ) (List ℕ) → List ℕ
stmt_fault_step names s.Null = []
stmt_fault_step names (s.Block body) = joined_lists body
stmt_fault_step names (s.If x one) = expr_faults names x ++ one
stmt_fault_step names (s.IfElse x one other) = expr_faults names x ++ one ++ other
stmt_fault_step names (s.Case kind subject arms) = expr_faults names subject ++ joined_lists arms
stmt_fault_step names (s.Assign target kind value) = target_faults names target ++ expr_faults names value

abbrev pub stmt_faults : List Entry → Stmt → List ℕ
stmt_faults names =
    fold-Stmt (List ℕ) (List ℕ) (stmt_fault_step names) (λ arm. flat_map (expr_faults names) (label_items arm.label) ++ arm.body)

-- ---- the walk

abbrev pub wire_faults : List Entry → Option Placed → List ℕ
wire_faults names None = []
wire_faults names (Some x) = expr_faults names x.expr

-- over the names before the item
abbrev pub item_faults : List Entry → Item → List ℕ
item_faults names (i.Parameters group) = parameter_faults names group
item_faults names (i.LocalParameters group) = parameter_faults names group
item_faults names (i.Wires signed range nets) = vector_faults names range ++ flat_map (λ (d : Declared). wire_faults names d.value) nets
item_faults names (i.Regs signed range variables) = vector_faults names range ++ flat_map (variable_faults names) variables
item_faults names (i.Assigns settings) = flat_map (λ (s : Setting). expr_faults names s.value.expr) settings
item_faults names (i.Always event body) = stmt_faults names body

abbrev pub items_faults : Roles → List Entry → List Item → List ℕ
items_faults roles names [] = []
items_faults roles names (x ∷ items) = item_faults names x ++ items_faults roles (behind_item roles names x) items

abbrev pub ports_faults : Roles → List Entry → List PortGroup → List Item → List ℕ
ports_faults roles names [] items = items_faults roles names items
ports_faults roles names (group ∷ groups) items = port_faults names group ++ ports_faults roles (behind_ports roles names group) groups items

abbrev pub header_faults : Roles → List Entry → List ParameterGroup → Module → List ℕ
header_faults roles names [] m = ports_faults roles names m.ports m.items
header_faults roles names (group ∷ groups) m = parameter_faults names group ++ header_faults roles (behind_parameters names group) groups m

-- the first fault alone
abbrev pub improper : Module → List ℕ
improper m = take 1 (header_faults (roles_of m.items) [] m.parameters m)
