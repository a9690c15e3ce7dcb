-- What is weighed of statements. No public clause names these.
use Rattle.std.specs.Prelude.{◌≡◌, ℕ, List, [], ◌∷◌, map, Bool, true, ◌&&◌}
use Rattle.std.specs.List.{list_all}
use Rattle.v_syntax.specs.declared.expr.Expr.{Expr}
use Rattle.v_syntax.specs.declared.expr.BinaryOperator.TheVariants as b
use Rattle.v_syntax.specs.declared.stmt.Label.{Label}
use Rattle.v_syntax.specs.declared.stmt.Stmt.{Stmt}
use Rattle.v_syntax.specs.declared.stmt.Arm.{Arm}
use Rattle.v_meaning.specs.Senses.{Shared}
use Rattle.v_meaning.specs.declared.names.Entry.{Entry}
use Rattle.v_meaning.specs.Expressions.{is_constant}
use Rattle.v_meaning.specs.Statements.{label_items, all_items, comparison_of}
use Rattle.v_meaning.specs.Weights.{Weighed, weighed, weighed_by, case_weight}
use Rattle.v_typing.specs.Sound.{all_sound, is_sound_stmt}
use Rattle.v_weight.specs.declared.counting.Counted.{Counted}
use Rattle.v_weight.specs.Counts.{Stands, weighing}

-- Items that are compared with what stands before them, as operators between them that take the final width.
abbrev pub compared_behind : List Entry → Weighed → List Expr → Weighed
compared_behind names x [] = x
compared_behind names x (item ∷ items) =
    compared_behind names (weighed_by Shared b.Add (is_constant names item) x (weighed names (weighing names item))) items

-- It is counted of what stands before items, compared with these.
abbrev pub Compares : List Entry → Counted → List Expr → Counted → Type 0
Compares names before items r = all_sound names items ≡ true → (s : Weighed) → Stands before s → Stands r (compared_behind names s items)

abbrev pub arm_labels : List Arm → List Label
arm_labels arms = map (λ (a : Arm). a.label) arms

abbrev pub arms_items : List Arm → List Expr
arms_items arms = all_items (arm_labels arms)

abbrev pub comparison_weight : List Entry → Expr → List Arm → ℕ
comparison_weight names subject arms = case_weight names subject (arm_labels arms) (comparison_of names [] subject (arm_labels arms)).width

-- ---- what can be weighed

abbrev pub block_sound : List Entry → List Stmt → Bool
block_sound names body = list_all (is_sound_stmt names) body

abbrev pub is_sound_arm : List Entry → Arm → Bool
is_sound_arm names a = all_sound names (label_items a.label) && is_sound_stmt names a.body

abbrev pub arms_sound : List Entry → List Arm → Bool
arms_sound names arms = list_all (is_sound_arm names) arms
