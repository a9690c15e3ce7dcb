-- Typed targets, statements and modules whose sites have no more bits than are read there.
use Rattle.std.specs.Prelude.{ℕ, List, map, Bool, true, ◌&&◌}
use Rattle.std.specs.List.{list_all}
use Rattle.v_meaning.specs.declared.names.Entry.{Entry}
use Rattle.v_core.specs.declared.statement.TypedTarget.{TypedTarget}
use Rattle.v_core.specs.declared.statement.TypedTarget.TheOpen.{TypedTarget-F}
use Rattle.v_core.specs.declared.statement.TypedTarget.TheOpen as t
use Rattle.v_core.specs.declared.statement.TypedTarget.TheFolds.{fold-TypedTarget}
use Rattle.v_core.specs.declared.statement.TypedItem.{TypedItem}
use Rattle.v_core.specs.declared.statement.TypedStmt.{TypedStmt}
use Rattle.v_core.specs.declared.statement.TypedStmt.TheOpen.{TypedStmt-F, TypedArm-F}
use Rattle.v_core.specs.declared.statement.TypedStmt.TheOpen as s
use Rattle.v_core.specs.declared.statement.TypedStmt.TheFolds.{fold-TypedStmt}
use Rattle.v_core.specs.declared.modules.TypedAssign.{TypedAssign}
use Rattle.v_core.specs.declared.modules.TypedProcess.{TypedProcess}
use Rattle.v_core.specs.declared.modules.TypedSite.{TypedSite}
use Rattle.v_core.specs.declared.modules.Core.{Core}
use Rattle.v_core.specs.Statements.{items_in}
use Rattle.v_core.specs.Sited.{SitedIn, is_sited}

-- ---- targets

-- those in the indices of a target
abbrev pub sited_target_step : TypedTarget-F SitedIn → List Entry → List ℕ → Bool
sited_target_step (t.Part name at low width) names sites = true
sited_target_step (t.Select name at bits width signed index) names sites = is_sited index names sites
sited_target_step (t.Concat parts) names sites = list_all (λ (x : SitedIn). x names sites) parts

abbrev pub is_sited_target : TypedTarget → List Entry → List ℕ → Bool
is_sited_target = fold-TypedTarget SitedIn sited_target_step

-- ---- statements

abbrev pub sited_stmt_step : TypedStmt-F SitedIn SitedIn → List Entry → List ℕ → Bool
sited_stmt_step s.Null names sites = true
sited_stmt_step (s.Block body) names sites = list_all (λ (one : SitedIn). one names sites) body
sited_stmt_step (s.If condition one other) names sites = is_sited condition names sites && (one names sites && other names sites)
sited_stmt_step (s.Case subject arms) names sites = is_sited subject names sites && list_all (λ (arm : SitedIn). arm names sites) arms
sited_stmt_step (s.Assign target kind value) names sites = is_sited_target target names sites && is_sited value names sites

abbrev pub are_sited_items : List TypedItem → List Entry → List ℕ → Bool
are_sited_items items names sites = list_all (λ (item : TypedItem). is_sited item.value names sites) items

abbrev pub sited_arm_step : TypedArm-F SitedIn SitedIn → SitedIn
sited_arm_step a names sites = are_sited_items (items_in a.label) names sites && a.body names sites

abbrev pub is_sited_stmt : TypedStmt → List Entry → List ℕ → Bool
is_sited_stmt = fold-TypedStmt SitedIn SitedIn sited_stmt_step sited_arm_step

-- ---- modules

-- how many bits each site of a module has
abbrev pub site_widths : Core → List ℕ
site_widths c = map (λ (s : TypedSite). s.width) c.sites

-- each value that is assigned, and each statement
abbrev pub is_sited_core : Core → Bool
is_sited_core c =
    list_all (λ (a : TypedAssign). is_sited a.value c.names (site_widths c)) c.assigns
    && list_all (λ (p : TypedProcess). is_sited_stmt p.body c.names (site_widths c)) c.processes
