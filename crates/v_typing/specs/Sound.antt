-- Which targets, statements and items can be typed: all their expressions are sound, bounds of targets descend within the
-- declared range, and targets side by side have 1 to 128 bits. A module that keeps the rules of declarations and
-- expressions has no others.
use Rattle.std.specs.Prelude.{List, map, Bool, true, ◌&&◌, Option, None, Some}
use Rattle.std.specs.List.{list_all}
use Rattle.v_syntax.specs.declared.expr.Expr.{Expr}
use Rattle.v_syntax.specs.declared.expr.Placed.{Placed}
use Rattle.v_syntax.specs.declared.expr.BinaryOperator.{BinaryOperator}
use Rattle.v_syntax.specs.declared.stmt.Target.{Target}
use Rattle.v_syntax.specs.declared.stmt.Target.TheOpen.{Target-F}
use Rattle.v_syntax.specs.declared.stmt.Target.TheOpen as t
use Rattle.v_syntax.specs.declared.stmt.Target.TheFolds.{para-Target}
use Rattle.v_syntax.specs.declared.stmt.Stmt.{Stmt}
use Rattle.v_syntax.specs.declared.stmt.Stmt.TheOpen.{Stmt-F, Arm-F}
use Rattle.v_syntax.specs.declared.stmt.Stmt.TheOpen as s
use Rattle.v_syntax.specs.declared.stmt.Stmt.TheFolds.{fold-Stmt}
use Rattle.v_syntax.specs.declared.module.Setting.{Setting}
use Rattle.v_syntax.specs.declared.module.Declared.{Declared}
use Rattle.v_syntax.specs.declared.module.Item.{Item}
use Rattle.v_syntax.specs.declared.module.Item.TheVariants as i
use Rattle.v_meaning.specs.declared.names.Entry.{Entry}
use Rattle.v_meaning.specs.Names.{entry_of}
use Rattle.v_meaning.specs.Marks.{targets_width}
use Rattle.v_meaning.specs.Statements.{label_items}
use Rattle.v_meaning.specs.Proper.{is_sound, is_part, is_between_1_and_128, proper_value}

-- each of these expressions, and each operand of a chain
abbrev pub all_sound : List Entry → List Expr → Bool
all_sound names xs = list_all (is_sound names) xs

abbrev pub links_sound : List Entry → List (BinaryOperator × Expr) → Bool
links_sound names links = list_all (λ (link : BinaryOperator × Expr). is_sound names link.1) links

-- ---- targets

-- parts beside whether they are sound
abbrev pub JudgedTarget : Type 0
JudgedTarget = Target × Bool

abbrev pub judged_targets : List JudgedTarget → List Target
judged_targets xs = map (λ (x : JudgedTarget). x.0) xs

abbrev pub sound_target_step : List Entry → Target-F JudgedTarget → Bool
sound_target_step names (t.Name n) = true
sound_target_step names (t.Select n bracket index) = is_sound names index
sound_target_step names (t.Part n r) = is_part (entry_of names n.name) (proper_value names r.msb.expr) (proper_value names r.lsb.expr)
sound_target_step names (t.Concat brace parts) =
    list_all (λ (x : JudgedTarget). x.1) parts && is_between_1_and_128 (Some (targets_width names (judged_targets parts)))

abbrev pub is_sound_target : List Entry → Target → Bool
is_sound_target names = para-Target Bool (sound_target_step names)

abbrev pub targets_sound : List Entry → List Target → Bool
targets_sound names xs = list_all (is_sound_target names) xs

-- ---- statements

abbrev pub sound_stmt_step : List Entry → Stmt-F Bool Bool → Bool
sound_stmt_step names s.Null = true
sound_stmt_step names (s.Block body) = list_all (λ one. one) body
sound_stmt_step names (s.If x one) = is_sound names x && one
sound_stmt_step names (s.IfElse x one other) = is_sound names x && (one && other)
sound_stmt_step names (s.Case kind subject arms) = is_sound names subject && list_all (λ arm. arm) arms
sound_stmt_step names (s.Assign target kind value) = is_sound_target names target && is_sound names value

abbrev pub sound_arm_step : List Entry → Arm-F Bool Bool → Bool
sound_arm_step names arm = all_sound names (label_items arm.label) && arm.body

abbrev pub is_sound_stmt : List Entry → Stmt → Bool
is_sound_stmt names = fold-Stmt Bool Bool (sound_stmt_step names) (sound_arm_step names)

-- ---- items

abbrev pub is_sound_value : List Entry → Option Placed → Bool
is_sound_value names None = true
is_sound_value names (Some x) = is_sound names x.expr

abbrev pub is_sound_item : List Entry → Item → Bool
is_sound_item names (i.Wires signed range nets) = list_all (λ (d : Declared). is_sound_value names d.value) nets
is_sound_item names (i.Assigns settings) = list_all (λ (s : Setting). is_sound names s.value.expr) settings
is_sound_item names (i.Always event body) = is_sound_stmt names body
is_sound_item names _ = true

abbrev pub are_sound_items : List Entry → List Item → Bool
are_sound_items names items = list_all (is_sound_item names) items
