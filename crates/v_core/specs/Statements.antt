-- What typed targets and statements do (1364-2005, 9).
use Rattle.std.specs.Prelude.{ℕ, ◌%◌, ◌^◌, ◌==◌, List, [], ◌∷◌, Bool, if◌then◌else◌}
use Rattle.std.specs.List.{list_any}
use Rattle.v_meaning.specs.Views.{View, Write}
use Rattle.v_meaning.specs.Acts.{Acts, End, Branch, sequence}
use Rattle.v_meaning.specs.Targets.{TargetSense, place_of, write_bits, selected_target, parts_width, parts_writes}
use Rattle.v_meaning.specs.Statements.{agree, assign_acts}
use Rattle.v_meaning.specs.declared.names.Entry.{Entry}
use Rattle.v_core.specs.declared.statement.TypedTarget.{TypedTarget}
use Rattle.v_core.specs.declared.statement.TypedTarget.TheOpen.{TypedTarget-F}
use Rattle.v_core.specs.declared.statement.TypedTarget.TheOpen as t
use Rattle.v_core.specs.declared.statement.TypedTarget.TheFolds.{fold-TypedTarget}
use Rattle.v_core.specs.declared.statement.TypedItem.{TypedItem}
use Rattle.v_core.specs.declared.statement.TypedLabel.{TypedLabel}
use Rattle.v_core.specs.declared.statement.TypedLabel.TheVariants as l
use Rattle.v_core.specs.declared.statement.TypedStmt.{TypedStmt}
use Rattle.v_core.specs.declared.statement.TypedStmt.TheOpen.{TypedStmt-F, TypedArm-F}
use Rattle.v_core.specs.declared.statement.TypedStmt.TheOpen as s
use Rattle.v_core.specs.declared.statement.TypedStmt.TheFolds.{fold-TypedStmt}
use Rattle.v_core.specs.Values.{entry_at, index_in, typed_value}

-- ---- targets, over the declared names

abbrev pub TargetIn : Type 0
TargetIn = List Entry → TargetSense

abbrev pub target_senses : List TargetIn → List Entry → List TargetSense
target_senses [] names = []
target_senses (x ∷ xs) names = x names ∷ target_senses xs names

abbrev pub target_in_step : TypedTarget-F TargetIn → List Entry → TargetSense
target_in_step (t.Part name at low width) names =
    record { width = width; writes = λ v value. write_bits (place_of (entry_at names name).kind) low width value }
target_in_step (t.Select name at bits width signed index) names = record {
  width = bits;
  writes = (selected_target (entry_at names name).kind (entry_at names name) (λ v. index_in width signed (typed_value index names v))).writes;
}
target_in_step (t.Concat parts) names =
    record { width = parts_width (target_senses parts names); writes = parts_writes (target_senses parts names) }

abbrev pub target_in : TypedTarget → List Entry → TargetSense
target_in = fold-TypedTarget TargetIn target_in_step

-- ---- statements

abbrev pub ActsIn : Type 0
ActsIn = List Entry → Acts

-- an arm: its label, and what it does
pub record ArmIn : Type 0 where
  pub label : TypedLabel
  pub acts : ActsIn

-- the items of a label; default has none
abbrev pub items_in : TypedLabel → List TypedItem
items_in (l.Items xs) = xs
items_in l.Default = []

abbrev pub default_in : TypedLabel → Acts → Acts → Acts
default_in (l.Items xs) acts more = more
default_in l.Default acts more = acts

abbrev pub default_among : List ArmIn → List Entry → Acts
default_among [] names = End
default_among (a ∷ arms) names = default_in a.label (a.acts names) (default_among arms names)

-- an item is met where it agrees with the subject but for the bits that are ignored
abbrev pub is_met_in : List Entry → View → ℕ → TypedItem → Bool
is_met_in names v subject item = agree item.ignored subject (typed_value item.value names v)

-- the first arm with an item that is met, in text order; else the default, wherever it stands; else nothing (9.5)
abbrev pub taken_in : (TypedItem → Bool) → List ArmIn → List Entry → Acts → Acts
taken_in met [] names otherwise = otherwise
taken_in met (a ∷ arms) names otherwise = if list_any met (items_in a.label) then a.acts names else taken_in met arms names otherwise

abbrev pub all_acts : List ActsIn → List Entry → List Acts
all_acts [] names = []
all_acts (a ∷ more) names = a names ∷ all_acts more names

-- the writes of a value that is cut to the target's width
abbrev pub writes_in : TargetSense → ℕ → View → List Write
writes_in target value v = target.writes v (value % 2 ^ target.width)

abbrev pub acts_step : TypedStmt-F ActsIn ArmIn → List Entry → Acts
acts_step s.Null names = End
acts_step (s.Block body) names = sequence (all_acts body names)
acts_step (s.If condition one other) names = Branch (λ v. if typed_value condition names v == 0 then other names else one names) End
acts_step (s.Case subject arms) names =
    Branch (λ v. taken_in (is_met_in names v (typed_value subject names v)) arms names (default_among arms names)) End
acts_step (s.Assign target kind value) names = assign_acts kind (λ v. writes_in (target_in target names) (typed_value value names v) v)

abbrev pub arm_in_step : TypedArm-F ActsIn ArmIn → ArmIn
arm_in_step a = record { label = a.label; acts = a.body }

abbrev pub acts_in : TypedStmt → List Entry → Acts
acts_in = fold-TypedStmt ActsIn ArmIn acts_step arm_in_step
