-- The acts of a statement of the source, by recursion on the syntax (1364-2005, 9).
use Rattle.std.specs.Prelude.{ℕ, ◌==◌, List, [], ◌∷◌, ◌++◌, map, Option, None, Some, Bool, ◌&&◌, if◌then◌else◌, max, bit_or}
use Rattle.std.specs.List.{list_any}
use Rattle.v_syntax.specs.declared.expr.Expr.{Expr}
use Rattle.v_syntax.specs.declared.expr.Number.{Number}
use Rattle.v_syntax.specs.declared.stmt.Label.{Label}
use Rattle.v_syntax.specs.declared.stmt.Label.TheVariants as l
use Rattle.v_syntax.specs.declared.stmt.AssignKind.{AssignKind}
use Rattle.v_syntax.specs.declared.stmt.AssignKind.TheVariants as k
use Rattle.v_syntax.specs.declared.stmt.CaseKind.{CaseKind}
use Rattle.v_syntax.specs.declared.stmt.CaseKind.TheVariants as c
use Rattle.v_syntax.specs.declared.stmt.Stmt.{Stmt}
use Rattle.v_syntax.specs.declared.stmt.Stmt.TheOpen.{Stmt-F, Arm-F}
use Rattle.v_syntax.specs.declared.stmt.Stmt.TheOpen as o
use Rattle.v_syntax.specs.declared.stmt.Stmt.TheFolds.{fold-Stmt}
use Rattle.v_meaning.specs.Views.{View, Write}
use Rattle.v_meaning.specs.Literals.{literal_of}
use Rattle.v_meaning.specs.Senses.{Sense, own, assigned, extended}
use Rattle.v_meaning.specs.declared.names.Entry.{Entry}
use Rattle.v_meaning.specs.Expressions.{sense_of, number_by_itself}
use Rattle.v_meaning.specs.Targets.{TargetSense, target_of}
use Rattle.v_meaning.specs.Acts.{Acts, End, Branch, Blocking, Nonblocking, sequence}

-- an arm of a case: when it is taken, and what it does
pub record ArmActs : Type 0 where
  pub label : Label
  pub acts : Acts

-- ---- what a case compares (9.5)

-- the items of a label; default has none
abbrev pub label_items : Label → List Expr
label_items (l.Items xs) = xs
label_items (l.Default at) = []

abbrev pub all_items : List Label → List Expr
all_items [] = []
all_items (label ∷ labels) = label_items label ++ all_items labels

abbrev pub greatest_width : List Sense → ℕ → ℕ
greatest_width [] width = width
greatest_width (x ∷ xs) width = greatest_width xs (max width x.width)

abbrev pub all_signed : List Sense → Bool → Bool
all_signed [] signed = signed
all_signed (x ∷ xs) signed = all_signed xs (signed && x.signed)

-- The expression and all items are compared at the greatest of their widths, as signed where all are (9.5).
pub record Comparison : Type 0 where
  pub width : ℕ
  pub signed : Bool

abbrev pub comparison_of : List Entry → List ℕ → Expr → List Label → Comparison
comparison_of names sites subject labels = record {
  width = greatest_width (map (sense_of names sites) (all_items labels)) (sense_of names sites subject).width;
  signed = all_signed (map (sense_of names sites) (all_items labels)) (sense_of names sites subject).signed;
}

-- The z bits of an item that is a number by itself are not compared in a casez (9.5.1). They are extended with the word.
abbrev pub ignored_in : Option Number → Comparison → ℕ
ignored_in None by = 0
ignored_in (Some n) by = extended (literal_of n.spelling).width (literal_of n.spelling).impedance by.width by.signed

abbrev pub ignored : CaseKind → Expr → Comparison → ℕ
ignored c.Case item by = 0
ignored c.Casez item by = ignored_in (number_by_itself item) by

-- two values agree, but for the bits that are ignored
abbrev pub agree : ℕ → ℕ → ℕ → Bool
agree mask m n = bit_or m mask == bit_or n mask

abbrev pub value_at : Comparison → Sense → View → ℕ
value_at by x v = x.at by.width by.signed v

abbrev pub is_met : List Entry → List ℕ → CaseKind → Expr → Comparison → View → Expr → Bool
is_met names sites kind subject by v item =
    agree (ignored kind item by) (value_at by (sense_of names sites subject) v) (value_at by (sense_of names sites item) v)

-- the first arm with an item that is met, in text order; else the default, wherever it stands; else nothing (9.5)
abbrev pub default_or : Label → Acts → Acts → Acts
default_or (l.Items xs) acts more = more
default_or (l.Default at) acts more = acts

abbrev pub default_of : List ArmActs → Acts
default_of [] = End
default_of (a ∷ arms) = default_or a.label a.acts (default_of arms)

abbrev pub taken : (Expr → Bool) → List ArmActs → Acts → Acts
taken met [] otherwise = otherwise
taken met (a ∷ arms) otherwise = if list_any met (label_items a.label) then a.acts else taken met arms otherwise

abbrev pub labels_of : List ArmActs → List Label
labels_of [] = []
labels_of (a ∷ arms) = a.label ∷ labels_of arms

abbrev pub case_acts : List Entry → List ℕ → CaseKind → Expr → List ArmActs → Acts
case_acts names sites kind subject arms =
    Branch (λ v. taken (is_met names sites kind subject (comparison_of names sites subject (labels_of arms)) v) arms (default_of arms)) End

-- ---- statements

-- the writes of an assignment: its right side is evaluated at the greater of both widths, and cut (9.2)
abbrev pub writes_of : TargetSense → Sense → View → List Write
writes_of target value v = target.writes v (assigned target.width value v)

abbrev pub assign_acts : AssignKind → (View → List Write) → Acts
assign_acts k.Blocking writes = Blocking writes End
assign_acts k.Nonblocking writes = Nonblocking writes End

-- a condition holds if its value is not 0 (9.4)
abbrev pub if_acts : Sense → Acts → Acts → Acts
if_acts condition one other = Branch (λ v. if own condition v == 0 then other else one) End

abbrev pub stmt_step : List Entry → List ℕ → Stmt-F Acts ArmActs → Acts
stmt_step names sites o.Null = End
stmt_step names sites (o.Block body) = sequence body
stmt_step names sites (o.If x one) = if_acts (sense_of names sites x) one End
stmt_step names sites (o.IfElse x one other) = if_acts (sense_of names sites x) one other
stmt_step names sites (o.Case kind subject arms) = case_acts names sites kind subject arms
stmt_step names sites (o.Assign target kind value) = assign_acts kind (writes_of (target_of names sites target) (sense_of names sites value))

abbrev pub arm_step : Arm-F Acts ArmActs → ArmActs
arm_step a = record { label = a.label; acts = a.body }

abbrev pub acts_of : List Entry → List ℕ → Stmt → Acts
acts_of names sites = fold-Stmt Acts ArmActs (stmt_step names sites) arm_step
