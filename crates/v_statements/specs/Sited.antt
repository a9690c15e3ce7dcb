-- When the sites of typed targets and statements have no more bits than are read there: where as many bits are read at the
-- numbers and selects of the source as are open.
use Rattle.std.specs.Prelude.{ℕ, List, ◌&&◌}
use Rattle.std.specs.List.{list_all}
use Rattle.v_syntax.specs.declared.stmt.Target.{Target}
use Rattle.v_syntax.specs.declared.stmt.Label.{Label}
use Rattle.v_syntax.specs.declared.stmt.Arm.{Arm}
use Rattle.v_syntax.specs.declared.stmt.Stmt.{Stmt}
use Rattle.v_meaning.specs.declared.names.Entry.{Entry}
use Rattle.v_places.specs.Openings.{target_openings, items_openings, stmt_openings}
use Rattle.v_core.specs.declared.statement.TypedItem.{TypedItem}
use Rattle.v_core.specs.declared.statement.TypedArm.{TypedArm}
use Rattle.v_core.specs.Sited.{SitedIn, is_sited, is_sited_body}
use Rattle.v_core.specs.SitedCores.{are_sited_items, is_sited_stmt}
use Rattle.v_core.specs.Statements.{items_in}
use Rattle.v_typing.specs.Sited.{AreRead}
use Rattle.v_statements.specs.declared.items.OpenItem.{OpenItem}
use Rattle.v_statements.specs.declared.cases.OpenArm.{OpenArm}
use Rattle.v_statements.specs.Cases.{open_items}

-- ---- of the source: by how many bits each site has, by the places of the sites, and over the declared names

abbrev pub TargetRead : List ℕ → List ℕ → List Entry → Target → Type 0
TargetRead widths places names x = AreRead widths places (target_openings names x)

abbrev pub LabelRead : List ℕ → List ℕ → List Entry → Label → Type 0
LabelRead widths places names x = AreRead widths places (items_openings names x)

abbrev pub StmtRead : List ℕ → List ℕ → List Entry → Stmt → Type 0
StmtRead widths places names x = AreRead widths places (stmt_openings names x)

abbrev pub ArmRead : List ℕ → List ℕ → List Entry → Arm → Type 0
ArmRead widths places names arm = LabelRead widths places names arm.label × StmtRead widths places names arm.body

-- ---- items and arms of a case: those at the width that they are compared at, and open ones

abbrev pub is_sited_item : TypedItem → SitedIn
is_sited_item item = is_sited item.value

abbrev pub is_sited_open_item : OpenItem → SitedIn
is_sited_open_item item = is_sited_body item.value.body

abbrev pub are_sited_open_items : List OpenItem → SitedIn
are_sited_open_items items names sites = list_all (λ (item : OpenItem). is_sited_open_item item names sites) items

abbrev pub is_sited_arm : TypedArm → SitedIn
is_sited_arm arm names sites = are_sited_items (items_in arm.label) names sites && is_sited_stmt arm.body names sites

abbrev pub is_sited_open_arm : OpenArm → SitedIn
is_sited_open_arm arm names sites = are_sited_open_items (open_items arm.label) names sites && is_sited_stmt arm.body names sites

abbrev pub are_sited_open_arms : List OpenArm → SitedIn
are_sited_open_arms arms names sites = list_all (λ (arm : OpenArm). is_sited_open_arm arm names sites) arms
