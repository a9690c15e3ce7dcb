-- What a case compares and which arm it takes, over the items of the source, over those whose final width and sign are
-- open, and over those that are fixed (1364-2005, 9.5 and 9.5.1).
use Rattle.std.specs.Prelude.{ℕ, List, [], ◌∷◌, ◌++◌, map, Bool, true, false, not, Option, None, Some, if◌then◌else◌}
use Rattle.std.specs.List.{list_any}
use Rattle.lz_base.specs.WordValue.{WordValue}
use Rattle.v_syntax.specs.declared.expr.Expr.{Expr}
use Rattle.v_syntax.specs.declared.expr.Number.{Number}
use Rattle.v_syntax.specs.declared.stmt.Label.{Label}
use Rattle.v_syntax.specs.declared.stmt.Label.TheVariants as l
use Rattle.v_syntax.specs.declared.stmt.CaseKind.{CaseKind}
use Rattle.v_syntax.specs.declared.stmt.Arm.{Arm}
use Rattle.v_meaning.specs.Views.{View}
use Rattle.v_meaning.specs.declared.literal.Literal.{Literal}
use Rattle.v_meaning.specs.Literals.{is_wrong_number}
use Rattle.v_meaning.specs.Senses.{Sense, extended}
use Rattle.v_meaning.specs.Acts.{Acts, End, Branch}
use Rattle.v_meaning.specs.declared.names.Entry.{Entry}
use Rattle.v_meaning.specs.Expressions.{sense_of}
use Rattle.v_meaning.specs.Statements.{Comparison, greatest_width, all_signed, ignored, agree, value_at, label_items, acts_of}
use Rattle.v_core.specs.declared.statement.TypedItem.{TypedItem}
use Rattle.v_core.specs.declared.statement.TypedLabel.{TypedLabel}
use Rattle.v_core.specs.declared.statement.TypedLabel.TheVariants as t
use Rattle.v_core.specs.declared.statement.TypedArm.{TypedArm}
use Rattle.v_core.specs.Values.{typed_value}
use Rattle.v_core.specs.Bodies.{sense_in}
use Rattle.v_core.specs.Statements.{items_in, acts_in}
use Rattle.v_statements.specs.declared.items.Common.{Common}
use Rattle.v_statements.specs.declared.items.OpenItem.{OpenItem}
use Rattle.v_statements.specs.declared.items.OpenLabel.{OpenLabel}
use Rattle.v_statements.specs.declared.items.OpenLabel.TheVariants as o
use Rattle.v_statements.specs.declared.cases.OpenArm.{OpenArm}

-- an item: which of its bits are ignored where a width and sign come down, and what it means
pub record ItemSense : Type 0 where
  pub ignored : Comparison → ℕ
  pub sense : Sense

-- an item at a width and sign: the bits that are ignored, and the value
pub record FixedItem : Type 0 where
  pub ignored : ℕ
  pub value : View → ℕ

abbrev pub item_at : Comparison → ItemSense → FixedItem
item_at by item = record { ignored = item.ignored by; value = value_at by item.sense }

-- an arm: its items, whether it is the default, and what it does
pub record ArmSense (Item : Type 0) : Type 0 where
  pub items : List Item
  pub is_default : Bool
  pub acts : Acts

abbrev pub arm_at : Comparison → ArmSense ItemSense → ArmSense FixedItem
arm_at by arm = record { items = map (item_at by) arm.items; is_default = arm.is_default; acts = arm.acts }

-- ---- which arm is taken

abbrev pub senses_of : List ItemSense → List Sense
senses_of items = map (λ (item : ItemSense). item.sense) items

abbrev pub senses_among : List (ArmSense ItemSense) → List Sense
senses_among [] = []
senses_among (a ∷ arms) = senses_of a.items ++ senses_among arms

-- the greatest width of what has this one and of others, and signed where all are
abbrev pub comparison_behind : Comparison → List Sense → Comparison
comparison_behind by xs = record { width = greatest_width xs by.width; signed = all_signed xs by.signed }

abbrev pub comparison_among : Sense → List (ArmSense ItemSense) → Comparison
comparison_among subject arms = comparison_behind (record { width = subject.width; signed = subject.signed }) (senses_among arms)

abbrev pub is_item_met : View → ℕ → FixedItem → Bool
is_item_met v subject item = agree item.ignored subject (item.value v)

abbrev pub default_acts : List (ArmSense FixedItem) → Acts
default_acts [] = End
default_acts (a ∷ arms) = if a.is_default then a.acts else default_acts arms

abbrev pub taken_acts : (FixedItem → Bool) → List (ArmSense FixedItem) → Acts → Acts
taken_acts met [] otherwise = otherwise
taken_acts met (a ∷ arms) otherwise = if list_any met a.items then a.acts else taken_acts met arms otherwise

-- the first arm with an item that the subject meets; else the default; else nothing
abbrev pub chosen_acts : (View → ℕ) → List (ArmSense FixedItem) → Acts
chosen_acts subject arms = Branch (λ v. taken_acts (is_item_met v (subject v)) arms (default_acts arms)) End

abbrev pub compared_acts : Comparison → Sense → List (ArmSense ItemSense) → Acts
compared_acts by subject arms = chosen_acts (value_at by subject) (map (arm_at by) arms)

abbrev pub case_of : Sense → List (ArmSense ItemSense) → Acts
case_of subject arms = compared_acts (comparison_among subject arms) subject arms

-- ---- of the source

abbrev pub source_item : List Entry → List ℕ → CaseKind → Expr → ItemSense
source_item names sites kind x = record { ignored = ignored kind x; sense = sense_of names sites x }

abbrev pub is_default : Label → Bool
is_default (l.Items xs) = false
is_default (l.Default at) = true

abbrev pub source_arm : List Entry → List ℕ → CaseKind → Arm → ArmSense ItemSense
source_arm names sites kind arm = record {
  items = map (source_item names sites kind) (label_items arm.label);
  is_default = is_default arm.label;
  acts = acts_of names sites arm.body;
}

-- ---- of open items

-- whether a number has its form
abbrev pub is_right : Option Number → Bool
is_right None = true
is_right (Some n) = not (is_wrong_number n.spelling)

-- the z bits of a number, and they at a width and sign
abbrev pub z_word : Literal → WordValue
z_word l = record { width = l.width; value = l.impedance }

abbrev pub z_at : Option WordValue → Comparison → ℕ
z_at None by = 0
z_at (Some w) by = extended w.width w.value by.width by.signed

abbrev pub open_item : List Entry → OpenItem → ItemSense
open_item names item = record { ignored = z_at item.z_bits; sense = sense_in item.value names }

abbrev pub open_items : OpenLabel → List OpenItem
open_items (o.Items xs) = xs
open_items o.Default = []

abbrev pub is_open_default : OpenLabel → Bool
is_open_default (o.Items xs) = false
is_open_default o.Default = true

abbrev pub open_arm : List Entry → OpenArm → ArmSense ItemSense
open_arm names arm = record {
  items = map (open_item names) (open_items arm.label);
  is_default = is_open_default arm.label;
  acts = acts_in arm.body names;
}

-- ---- of typed items

abbrev pub comparison_in : Common → Comparison
comparison_in by = record { width = by.width; signed = by.signed }

abbrev pub typed_item : List Entry → TypedItem → FixedItem
typed_item names item = record { ignored = item.ignored; value = typed_value item.value names }

abbrev pub is_typed_default : TypedLabel → Bool
is_typed_default (t.Items xs) = false
is_typed_default t.Default = true

abbrev pub typed_arm : List Entry → TypedArm → ArmSense FixedItem
typed_arm names arm = record {
  items = map (typed_item names) (items_in arm.label);
  is_default = is_typed_default arm.label;
  acts = acts_in arm.body names;
}
