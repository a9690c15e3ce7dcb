-- The numbers and selects of a module whose value a cycle looks at, each with how many of its bits are open: none in a number
-- without x bits, nor where the index of a select is a constant in range (1364-2005, 3.5.1, 5.2.1 and 5.2.2).
use Rattle.std.specs.Prelude.{ℕ, List, [], ◌∷◌, ◌++◌, map, flat_map, if◌then◌else◌, slice_index, Option, None, Some}
use Rattle.v_syntax.specs.declared.expr.Expr.{Expr}
use Rattle.v_syntax.specs.declared.expr.Expr.TheOpen.{Expr-F}
use Rattle.v_syntax.specs.declared.expr.Expr.TheOpen as o
use Rattle.v_syntax.specs.declared.expr.Expr.TheFolds.{para-Expr}
use Rattle.v_syntax.specs.declared.expr.Number.{Number}
use Rattle.v_syntax.specs.declared.expr.Placed.{Placed}
use Rattle.v_syntax.specs.declared.token.Ident.{Ident}
use Rattle.v_syntax.specs.declared.stmt.Target.{Target}
use Rattle.v_syntax.specs.declared.stmt.Target.TheOpen.{Target-F}
use Rattle.v_syntax.specs.declared.stmt.Target.TheOpen as t
use Rattle.v_syntax.specs.declared.stmt.Target.TheFolds.{fold-Target}
use Rattle.v_syntax.specs.declared.stmt.Label.{Label}
use Rattle.v_syntax.specs.declared.stmt.Stmt.{Stmt}
use Rattle.v_syntax.specs.declared.stmt.Stmt.TheOpen.{Stmt-F, Arm-F}
use Rattle.v_syntax.specs.declared.stmt.Stmt.TheOpen as s
use Rattle.v_syntax.specs.declared.stmt.Stmt.TheFolds.{fold-Stmt}
use Rattle.v_syntax.specs.declared.module.Setting.{Setting}
use Rattle.v_syntax.specs.declared.module.Declared.{Declared}
use Rattle.v_syntax.specs.declared.module.Item.{Item}
use Rattle.v_syntax.specs.declared.module.Item.TheVariants as i
use Rattle.v_meaning.specs.declared.names.Entry.{Entry}
use Rattle.v_meaning.specs.Literals.{literal_of, open_bits}
use Rattle.v_meaning.specs.Names.{entry_of}
use Rattle.v_meaning.specs.Declarations.{joined_lists}
use Rattle.v_meaning.specs.Statements.{label_items}
use Rattle.v_meaning.specs.Expressions.{number_of_place}
use Rattle.v_meaning.specs.Sites.{Site, select_width, is_fixed, site_step, target_site_step}

abbrev pub number_opening : Number → Site
number_opening n = record { at = n.at; width = open_bits (literal_of n.spelling) }

abbrev pub select_opening : List Entry → Ident → Expr → Site
select_opening names n index = record {
  at = n.at;
  width = if is_fixed names (entry_of names n.name) index then 0 else select_width (entry_of names n.name).kind (entry_of names n.name);
}

-- Where it is no number and no select, they are put together as the sites of its parts are.
abbrev pub opening_step : List Entry → Expr-F (Expr × List Site) → List Site
opening_step names (o.Number n) = number_opening n ∷ []
opening_step names (o.Select n bracket index) = select_opening names n index.0 ∷ index.1
opening_step names x = site_step names x

-- those of an expression in text order
abbrev pub openings_of : List Entry → Expr → List Site
openings_of names = para-Expr (List Site) (opening_step names)

abbrev pub target_opening_step : List Entry → Target-F (List Site) → List Site
target_opening_step names (t.Select n bracket index) = openings_of names index
target_opening_step names x = target_site_step names x

abbrev pub target_openings : List Entry → Target → List Site
target_openings names = fold-Target (List Site) (target_opening_step names)

abbrev pub items_openings : List Entry → Label → List Site
items_openings names label = flat_map (openings_of names) (label_items label)

abbrev pub stmt_opening_step : List Entry → Stmt-F (List Site) (List Site) → List Site
stmt_opening_step names s.Null = []
stmt_opening_step names (s.Block body) = joined_lists body
stmt_opening_step names (s.If x one) = openings_of names x ++ one
stmt_opening_step names (s.IfElse x one other) = openings_of names x ++ one ++ other
stmt_opening_step names (s.Case kind subject arms) = openings_of names subject ++ joined_lists arms
stmt_opening_step names (s.Assign target kind value) = target_openings names target ++ openings_of names value

abbrev pub arm_opening_step : List Entry → Arm-F (List Site) (List Site) → List Site
arm_opening_step names arm = items_openings names arm.label ++ arm.body

abbrev pub stmt_openings : List Entry → Stmt → List Site
stmt_openings names = fold-Stmt (List Site) (List Site) (stmt_opening_step names) (arm_opening_step names)

abbrev pub value_openings : List Entry → Option Placed → List Site
value_openings names None = []
value_openings names (Some x) = openings_of names x.expr

abbrev pub item_openings : List Entry → Item → List Site
item_openings names (i.Wires signed range nets) = flat_map (λ (d : Declared). value_openings names d.value) nets
item_openings names (i.Assigns settings) = flat_map (λ (s : Setting). openings_of names s.value.expr) settings
item_openings names (i.Always event body) = stmt_openings names body
item_openings names _ = []

-- those of a module in text order
abbrev pub module_openings : List Entry → List Item → List Site
module_openings names items = flat_map (item_openings names) items

-- ---- sites by their places

abbrev pub place_of : Site → ℕ
place_of s = s.at

abbrev pub width_of : Site → ℕ
width_of s = s.width

-- how many bits are read at a place: those of the site there, and none where there is no site
abbrev pub bits_read : List Site → ℕ → ℕ
bits_read sites at = slice_index (map width_of sites) (number_of_place (map place_of sites) at)
