-- Typed targets, statements and modules that keep to their widths (1364-2005, 5.2, 9.2 and 9.5).
use Rattle.std.specs.Prelude.{ℕ, ◌+◌, ◌==◌, List, [], ◌∷◌, Bool, true, ◌&&◌, nat_le}
use Rattle.std.specs.List.{list_all}
use Rattle.v_meaning.specs.declared.names.Entry.{Entry}
use Rattle.v_core.specs.declared.statement.TypedTarget.{TypedTarget}
use Rattle.v_core.specs.declared.statement.TypedTarget.TheOpen.{TypedTarget-F}
use Rattle.v_core.specs.declared.statement.TypedTarget.TheOpen as t
use Rattle.v_core.specs.declared.statement.TypedTarget.TheFolds.{fold-TypedTarget}
use Rattle.v_core.specs.declared.statement.TypedItem.{TypedItem}
use Rattle.v_core.specs.declared.statement.TypedStmt.{TypedStmt}
use Rattle.v_core.specs.declared.statement.TypedStmt.TheOpen.{TypedStmt-F, TypedArm-F}
use Rattle.v_core.specs.declared.statement.TypedStmt.TheOpen as s
use Rattle.v_core.specs.declared.statement.TypedStmt.TheFolds.{fold-TypedStmt}
use Rattle.v_core.specs.declared.modules.TypedAssign.{TypedAssign}
use Rattle.v_core.specs.declared.modules.TypedProcess.{TypedProcess}
use Rattle.v_core.specs.declared.modules.Core.{Core}
use Rattle.v_core.specs.Values.{entry_at}
use Rattle.v_core.specs.Statements.{items_in}
use Rattle.v_core.specs.Formed.{Formed, FormedIn, formed, has, is_width, selected_width, within_words}

-- ---- targets

-- parts side by side
abbrev pub target_parts : List FormedIn → List Entry → Formed
target_parts [] names = record { width = 0; kept = true }
target_parts (x ∷ xs) names = record { width = (x names).width + (target_parts xs names).width; kept = (x names).kept && (target_parts xs names).kept }

-- bits of a variable that it has; a bit or word as wide as is said, at an index of this width; 1 to 128 bits side by side
abbrev pub target_form_step : TypedTarget-F FormedIn → List Entry → Formed
target_form_step (t.Part name at low width) names =
    record { width = width; kept = is_width width && nat_le (low + width) (entry_at names name).width }
target_form_step (t.Select name at bits width signed index) names = record {
  width = bits;
  kept = is_width (entry_at names name).width && bits == selected_width (entry_at names name).kind (entry_at names name).width
      && has width (formed index names);
}
target_form_step (t.Concat parts) names = within_words (target_parts parts names)

abbrev pub target_form : TypedTarget → List Entry → Formed
target_form = fold-TypedTarget FormedIn target_form_step

-- ---- statements

abbrev pub KeptIn : Type 0
KeptIn = List Entry → Bool

-- an arm of a case at a width that its items are compared at
abbrev pub KeptArm : Type 0
KeptArm = ℕ → KeptIn

-- the items of a label have the width that they are compared at
abbrev pub are_formed_items : ℕ → List TypedItem → List Entry → Bool
are_formed_items width items names = list_all (λ (item : TypedItem). has width (formed item.value names)) items

abbrev pub formed_stmt_step : TypedStmt-F KeptIn KeptArm → List Entry → Bool
formed_stmt_step s.Null names = true
formed_stmt_step (s.Block body) names = list_all (λ (one : KeptIn). one names) body
formed_stmt_step (s.If condition one other) names = (formed condition names).kept && (one names && other names)
formed_stmt_step (s.Case subject arms) names =
    (formed subject names).kept && list_all (λ (arm : KeptArm). arm (formed subject names).width names) arms
formed_stmt_step (s.Assign target kind value) names = (target_form target names).kept && (formed value names).kept

abbrev pub formed_arm_step : TypedArm-F KeptIn KeptArm → KeptArm
formed_arm_step a width names = are_formed_items width (items_in a.label) names && a.body names

abbrev pub is_formed_stmt : TypedStmt → List Entry → Bool
is_formed_stmt = fold-TypedStmt KeptIn KeptArm formed_stmt_step formed_arm_step

-- ---- modules

-- each value that is assigned, and each statement, keeps to its widths
abbrev pub is_formed_core : Core → Bool
is_formed_core c =
    list_all (λ (a : TypedAssign). (formed a.value c.names).kept) c.assigns
    && list_all (λ (p : TypedProcess). is_formed_stmt p.body c.names) c.processes
