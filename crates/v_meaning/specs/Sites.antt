-- The places of the text whose bits are open: the x bits of numbers, and selects that may leave their range.
-- In the standard an x spreads by tables of four values; here the bits of a site are chosen.
use Rattle.std.specs.Prelude.{ℕ, zero, suc, List, [], ◌∷◌, ◌++◌, flat_map, Bool, ◌&&◌, if◌then◌else◌, Option, None, Some, is_some}
use Rattle.v_syntax.specs.declared.expr.Expr.{Expr}
use Rattle.v_syntax.specs.declared.expr.Expr.TheOpen.{Expr-F}
use Rattle.v_syntax.specs.declared.expr.Expr.TheOpen as o
use Rattle.v_syntax.specs.declared.expr.Expr.TheFolds.{para-Expr}
use Rattle.v_syntax.specs.declared.expr.Placed.{Placed}
use Rattle.v_syntax.specs.declared.expr.BinaryOperator.{BinaryOperator}
use Rattle.v_syntax.specs.declared.stmt.Target.{Target}
use Rattle.v_syntax.specs.declared.stmt.Target.TheOpen.{Target-F}
use Rattle.v_syntax.specs.declared.stmt.Target.TheOpen as t
use Rattle.v_syntax.specs.declared.stmt.Target.TheFolds.{fold-Target}
use Rattle.v_syntax.specs.declared.stmt.Label.{Label}
use Rattle.v_syntax.specs.declared.stmt.Stmt.{Stmt}
use Rattle.v_syntax.specs.declared.stmt.Stmt.TheOpen.{Stmt-F, Arm-F}
use Rattle.v_syntax.specs.declared.stmt.Stmt.TheOpen as s
use Rattle.v_syntax.specs.declared.stmt.Stmt.TheFolds.{fold-Stmt}
use Rattle.v_syntax.specs.declared.module.Setting.{Setting}
use Rattle.v_syntax.specs.declared.module.Declared.{Declared}
use Rattle.v_syntax.specs.declared.module.Item.{Item}
use Rattle.v_syntax.specs.declared.module.Item.TheVariants as i
use Rattle.v_meaning.specs.Literals.{literal_of, open_bits}
use Rattle.v_meaning.specs.Senses.{constant}
use Rattle.v_meaning.specs.declared.names.Kind.{Kind}
use Rattle.v_meaning.specs.declared.names.Kind.TheVariants.{Memory}
use Rattle.v_meaning.specs.declared.names.Entry.{Entry}
use Rattle.v_meaning.specs.Names.{entry_of, within_entry}
use Rattle.v_meaning.specs.Expressions.{sense_of, is_constant}
use Rattle.v_meaning.specs.Statements.{label_items}
use Rattle.v_meaning.specs.Declarations.{joined_lists}

-- the first byte of a site, and how many bits it has
pub record Site : Type 0 where
  pub at : ℕ
  pub width : ℕ

-- the number of a site's bits in a select: one, or those of a memory's word
abbrev pub select_width : Kind → Entry → ℕ
select_width (Memory k low count) e = e.width
select_width kind e = 1

-- an index that is a constant expression in range
abbrev pub is_fixed : List Entry → Entry → Expr → Bool
is_fixed names e index = is_constant names index && is_some (within_entry e (constant (sense_of names [] index)))

-- a number with x bits (3.5.1)
abbrev pub number_site : ℕ → ℕ → List Site
number_site at zero = []
number_site at (suc bits) = record { at = at; width = suc bits } ∷ []

-- a bit or word whose index may be out of range (5.2.1 and 5.2.2)
abbrev pub select_site : List Entry → Entry → ℕ → Expr → List Site
select_site names e at index = if is_fixed names e index then [] else record { at = at; width = select_width e.kind e } ∷ []

abbrev pub links_sites : List (BinaryOperator × (Expr × List Site)) → List Site
links_sites [] = []
links_sites (link ∷ links) = link.1.1 ++ links_sites links

-- each operand beside its sites
abbrev pub parts_sites : List (Expr × List Site) → List Site
parts_sites [] = []
parts_sites (x ∷ xs) = x.1 ++ parts_sites xs

abbrev pub site_step : List Entry → Expr-F (Expr × List Site) → List Site
site_step names (o.Number n) = number_site n.at (open_bits (literal_of n.spelling))
site_step names (o.Name n) = []
site_step names (o.Select n bracket index) = select_site names (entry_of names n.name) n.at index.0 ++ index.1
site_step names (o.Part n bracket msb_at msb lsb_at lsb) = []
site_step names (o.Unary op x) = x.1
site_step names (o.Chain x links) = x.1 ++ links_sites links
site_step names (o.Conditional c x y) = c.1 ++ x.1 ++ y.1
site_step names (o.Concat brace parts) = parts_sites parts
site_step names (o.Replicate brace count_at count inner parts) = parts_sites parts
site_step names (o.Cast sign x) = x.1

-- the sites of an expression in text order
abbrev pub sites_of : List Entry → Expr → List Site
sites_of names = para-Expr (List Site) (site_step names)

abbrev pub target_site_step : List Entry → Target-F (List Site) → List Site
target_site_step names (t.Name n) = []
target_site_step names (t.Select n bracket index) = sites_of names index
target_site_step names (t.Part n range) = []
target_site_step names (t.Concat brace parts) = joined_lists parts

-- those in the indices of a target; a bit or word of the target itself is none
abbrev pub target_sites : List Entry → Target → List Site
target_sites names = fold-Target (List Site) (target_site_step names)

abbrev pub items_sites : List Entry → Label → List Site
items_sites names label = flat_map (sites_of names) (label_items label)

abbrev pub stmt_site_step : List Entry → Stmt-F (List Site) (List Site) → List Site
stmt_site_step names s.Null = []
stmt_site_step names (s.Block body) = joined_lists body
stmt_site_step names (s.If x one) = sites_of names x ++ one
stmt_site_step names (s.IfElse x one other) = sites_of names x ++ one ++ other
stmt_site_step names (s.Case kind subject arms) = sites_of names subject ++ joined_lists arms
stmt_site_step names (s.Assign target kind value) = target_sites names target ++ sites_of names value

abbrev pub arm_site_step : List Entry → Arm-F (List Site) (List Site) → List Site
arm_site_step names arm = items_sites names arm.label ++ arm.body

abbrev pub stmt_sites : List Entry → Stmt → List Site
stmt_sites names = fold-Stmt (List Site) (List Site) (stmt_site_step names) (arm_site_step names)

abbrev pub value_sites : List Entry → Option Placed → List Site
value_sites names None = []
value_sites names (Some x) = sites_of names x.expr

-- Constant expressions have no sites.
abbrev pub item_sites : List Entry → Item → List Site
item_sites names (i.Wires signed range nets) = flat_map (λ (d : Declared). value_sites names d.value) nets
item_sites names (i.Assigns settings) = flat_map (λ (s : Setting). sites_of names s.value.expr) settings
item_sites names (i.Always event body) = stmt_sites names body
item_sites names _ = []

-- the sites of a module in the order of their first bytes
abbrev pub module_sites : List Entry → List Item → List Site
module_sites names items = flat_map (item_sites names) items
