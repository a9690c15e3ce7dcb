-- What typed targets and statements do that are made of lists: parts side by side, blocks and cases.
use Rattle.std.proofs.Common.{◌≡◌, ap, sym, ◌∙◌, refl, ℕ, List, [], ◌∷◌, map, Bool}
use Rattle.std.specs.Prelude.{◌||◌, if◌then◌else◌}
use Rattle.std.specs.List.{list_any}
use Rattle.std.proofs.Math.Path.{fun_ext}
use Rattle.v_meaning.specs.Views.{View}
use Rattle.v_meaning.specs.Acts.{Acts, End, Branch, sequence}
use Rattle.v_meaning.specs.Targets.{TargetSense, parts_width, parts_writes}
use Rattle.v_meaning.specs.declared.names.Entry.{Entry}
use Rattle.v_core.specs.declared.typed.Typed.{Typed}
use Rattle.v_core.specs.declared.statement.TypedTarget.{TypedTarget}
use Rattle.v_core.specs.declared.statement.TypedTarget.TheVariants as t
use Rattle.v_core.specs.declared.statement.TypedTarget.TheOpen as p
use Rattle.v_core.specs.declared.statement.TypedTarget.TheFolds.{fold-roll-TypedTarget}
use Rattle.v_core.specs.declared.statement.TypedItem.{TypedItem}
use Rattle.v_core.specs.declared.statement.TypedLabel.{TypedLabel}
use Rattle.v_core.specs.declared.statement.TypedLabel.TheVariants as l
use Rattle.v_core.specs.declared.statement.TypedArm.{TypedArm}
use Rattle.v_core.specs.declared.statement.TypedStmt.{TypedStmt}
use Rattle.v_core.specs.declared.statement.TypedStmt.TheVariants as s
use Rattle.v_core.specs.declared.statement.TypedStmt.TheOpen as o
use Rattle.v_core.specs.declared.statement.TypedStmt.TheFolds.{fold-TypedArm, fold-roll-TypedStmt, fold-roll-TypedArm}
use Rattle.v_core.specs.Values.{typed_value}
use Rattle.v_core.specs.Statements.{TargetIn, target_senses, target_in_step, target_in, ActsIn, ArmIn, items_in, default_in, default_among, is_met_in, taken_in, all_acts, acts_step, arm_in_step, acts_in}
use Rattle.v_statements.specs.Made.{part_senses, joined_in, body_acts}
use Rattle.v_statements.specs.Cases.{is_item_met, default_acts, taken_acts, chosen_acts, typed_item, is_typed_default, typed_arm}

-- ---- parts side by side

parts_map : (parts : List TypedTarget) (names : List Entry) → target_senses (map target_in parts) names ≡ part_senses parts names
parts_map [] names = refl
parts_map (x ∷ xs) names = ap (λ (r : List TargetSense). target_in x names ∷ r) (parts_map xs names)

-- parts of these meanings side by side
abbrev beside : List TargetSense → TargetSense
beside parts = record { width = parts_width parts; writes = parts_writes parts }

pub target_concat : (parts : List TypedTarget) → target_in (t.Concat parts) ≡ joined_in parts
target_concat parts =
    ap target_in (sym (t.rolls-Concat parts)) ∙ fold-roll-TypedTarget TargetIn target_in_step (p.Concat parts)
    ∙ fun_ext (λ names. ap beside (parts_map parts names))

-- ---- blocks

body_map : (body : List TypedStmt) (names : List Entry) → all_acts (map acts_in body) names ≡ body_acts body names
body_map [] names = refl
body_map (x ∷ xs) names = ap (λ (r : List Acts). acts_in x names ∷ r) (body_map xs names)

pub stmt_block : (body : List TypedStmt) → acts_in (s.Block body) ≡ (λ names. sequence (body_acts body names))
stmt_block body =
    ap acts_in (sym (s.rolls-Block body)) ∙ fold-roll-TypedStmt ActsIn ArmIn acts_step arm_in_step (o.Block body)
    ∙ fun_ext (λ names. ap sequence (body_map body names))

-- ---- cases

abbrev arm_in : TypedArm → ArmIn
arm_in = fold-TypedArm ActsIn ArmIn acts_step arm_in_step

arm_is : (a : TypedArm) → arm_in a ≡ record { label = a.label; acts = acts_in a.body }
arm_is a = fold-roll-TypedArm ActsIn ArmIn acts_step arm_in_step (record { label = a.label; body = a.body })

abbrev plain_arms : List TypedArm → List ArmIn
plain_arms [] = []
plain_arms (a ∷ arms) = record { label = a.label; acts = acts_in a.body } ∷ plain_arms arms

arms_map : (arms : List TypedArm) → map arm_in arms ≡ plain_arms arms
arms_map [] = refl
arms_map (a ∷ arms) = λ i. arm_is a i ∷ arms_map arms i

any_met : (names : List Entry) (v : View) (subject : ℕ) (items : List TypedItem) →
    list_any (is_met_in names v subject) items ≡ list_any (is_item_met v subject) (map (typed_item names) items)
any_met names v subject [] = refl
any_met names v subject (x ∷ xs) = ap (λ (b : Bool). is_met_in names v subject x || b) (any_met names v subject xs)

default_is : (label : TypedLabel) (acts more : Acts) → default_in label acts more ≡ (if is_typed_default label then acts else more)
default_is (l.Items xs) acts more = refl
default_is l.Default acts more = refl

defaults_are : (arms : List TypedArm) (names : List Entry) → default_among (plain_arms arms) names ≡ default_acts (map (typed_arm names) arms)
defaults_are [] names = refl
defaults_are (a ∷ arms) names =
    default_is a.label (acts_in a.body names) (default_among (plain_arms arms) names)
    ∙ ap (λ (r : Acts). if is_typed_default a.label then acts_in a.body names else r) (defaults_are arms names)

taken_is : (names : List Entry) (v : View) (subject : ℕ) (otherwise : Acts) (arms : List TypedArm) →
    taken_in (is_met_in names v subject) (plain_arms arms) names otherwise ≡ taken_acts (is_item_met v subject) (map (typed_arm names) arms) otherwise
taken_is names v subject otherwise [] = refl
taken_is names v subject otherwise (a ∷ arms) =
    λ i. if any_met names v subject (items_in a.label) i then acts_in a.body names else taken_is names v subject otherwise arms i

pub stmt_case : (subject : Typed) (arms : List TypedArm) →
    acts_in (s.Case subject arms) ≡ (λ names. chosen_acts (typed_value subject names) (map (typed_arm names) arms))
stmt_case subject arms =
    ap acts_in (sym (s.rolls-Case subject arms)) ∙ fold-roll-TypedStmt ActsIn ArmIn acts_step arm_in_step (o.Case subject arms)
    ∙ fun_ext (λ names.
    ap (λ (ms : List ArmIn). Branch (λ v. taken_in (is_met_in names v (typed_value subject names v)) ms names (default_among ms names)) End) (arms_map arms)
    ∙ ap (λ (otherwise : Acts). Branch (λ v. taken_in (is_met_in names v (typed_value subject names v)) (plain_arms arms) names otherwise) End) (defaults_are arms names)
    ∙ ap (λ (f : View → Acts). Branch f End)
    (fun_ext (λ v. taken_is names v (typed_value subject names v) (default_acts (map (typed_arm names) arms)) arms)))
