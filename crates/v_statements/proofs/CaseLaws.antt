-- What a case of the source compares and which arm it takes, over the meanings of its items and arms.
use Rattle.std.proofs.Common.{◌≡◌, ap, ◌∙◌, refl, ℕ, List, [], ◌∷◌, ◌++◌, map, Bool, max}
use Rattle.std.specs.Prelude.{◌&&◌, ◌||◌, if◌then◌else◌}
use Rattle.std.specs.List.{list_any}
use Rattle.std.proofs.Math.Path.{fun_ext}
use Rattle.std.proofs.lemmas.List.{map-append}
use Rattle.v_syntax.specs.declared.expr.Expr.{Expr}
use Rattle.v_syntax.specs.declared.stmt.Label.{Label}
use Rattle.v_syntax.specs.declared.stmt.Label.TheVariants as l
use Rattle.v_syntax.specs.declared.stmt.CaseKind.{CaseKind}
use Rattle.v_syntax.specs.declared.stmt.Arm.{Arm}
use Rattle.v_syntax.specs.declared.stmt.Stmt.TheFolds.{fold-Arm, fold-roll-Arm}
use Rattle.v_meaning.specs.Views.{View}
use Rattle.v_meaning.specs.Senses.{Sense}
use Rattle.v_meaning.specs.Acts.{Acts, End, Branch}
use Rattle.v_meaning.specs.declared.names.Entry.{Entry}
use Rattle.v_meaning.specs.Expressions.{sense_of}
use Rattle.v_meaning.specs.Statements.{ArmActs, label_items, all_items, Comparison, comparison_of, greatest_width, all_signed, value_at, is_met, default_or, default_of, taken, labels_of, case_acts, stmt_step, arm_step, acts_of}
use Rattle.v_statements.specs.Cases.{item_at, arm_at, senses_of, senses_among, comparison_behind, comparison_among, is_item_met, default_acts, taken_acts, compared_acts, case_of, source_item, is_default, source_arm}

abbrev pub arm_acts : List Entry → List ℕ → Arm → ArmActs
arm_acts names sites = fold-Arm Acts ArmActs (stmt_step names sites) arm_step

arm_is : (names : List Entry) (sites : List ℕ) (a : Arm) → arm_acts names sites a ≡ record { label = a.label; acts = acts_of names sites a.body }
arm_is names sites a = fold-roll-Arm Acts ArmActs (stmt_step names sites) arm_step (record { label = a.label; body = a.body })

-- the acts of arms, each behind its label
abbrev plain_arms : List Entry → List ℕ → List Arm → List ArmActs
plain_arms names sites [] = []
plain_arms names sites (a ∷ arms) = record { label = a.label; acts = acts_of names sites a.body } ∷ plain_arms names sites arms

arms_map : (names : List Entry) (sites : List ℕ) (arms : List Arm) → map (arm_acts names sites) arms ≡ plain_arms names sites arms
arms_map names sites [] = refl
arms_map names sites (a ∷ arms) = λ i. arm_is names sites a i ∷ arms_map names sites arms i

-- ---- the width and sign of the comparison

senses_map : (names : List Entry) (sites : List ℕ) (kind : CaseKind) (items : List Expr) → map (sense_of names sites) items ≡ senses_of (map (source_item names sites kind) items)
senses_map names sites kind [] = refl
senses_map names sites kind (x ∷ xs) = ap (λ (r : List Sense). sense_of names sites x ∷ r) (senses_map names sites kind xs)

senses_are : (names : List Entry) (sites : List ℕ) (kind : CaseKind) (arms : List Arm) →
    map (sense_of names sites) (all_items (labels_of (plain_arms names sites arms))) ≡ senses_among (map (source_arm names sites kind) arms)
senses_are names sites kind [] = refl
senses_are names sites kind (a ∷ arms) =
    map-append (sense_of names sites) (label_items a.label) (all_items (labels_of (plain_arms names sites arms)))
    ∙ (λ i. senses_map names sites kind (label_items a.label) i ++ senses_are names sites kind arms i)

comparison_is : (names : List Entry) (sites : List ℕ) (kind : CaseKind) (subject : Expr) (arms : List Arm) →
    comparison_of names sites subject (labels_of (plain_arms names sites arms)) ≡ comparison_among (sense_of names sites subject) (map (source_arm names sites kind) arms)
comparison_is names sites kind subject arms =
    ap (comparison_behind (record { width = (sense_of names sites subject).width; signed = (sense_of names sites subject).signed })) (senses_are names sites kind arms)

-- ---- the arm that is taken

any_met : (names : List Entry) (sites : List ℕ) (kind : CaseKind) (subject : Expr) (by : Comparison) (v : View) (items : List Expr) →
    list_any (is_met names sites kind subject by v) items
    ≡ list_any (is_item_met v (value_at by (sense_of names sites subject) v)) (map (item_at by) (map (source_item names sites kind) items))
any_met names sites kind subject by v [] = refl
any_met names sites kind subject by v (x ∷ xs) = ap (λ (b : Bool). is_met names sites kind subject by v x || b) (any_met names sites kind subject by v xs)

default_is : (label : Label) (acts more : Acts) → default_or label acts more ≡ (if is_default label then acts else more)
default_is (l.Items xs) acts more = refl
default_is (l.Default at) acts more = refl

defaults_are : (names : List Entry) (sites : List ℕ) (kind : CaseKind) (by : Comparison) (arms : List Arm) →
    default_of (plain_arms names sites arms) ≡ default_acts (map (arm_at by) (map (source_arm names sites kind) arms))
defaults_are names sites kind by [] = refl
defaults_are names sites kind by (a ∷ arms) =
    default_is a.label (acts_of names sites a.body) (default_of (plain_arms names sites arms))
    ∙ ap (λ (r : Acts). if is_default a.label then acts_of names sites a.body else r) (defaults_are names sites kind by arms)

taken_is : (names : List Entry) (sites : List ℕ) (kind : CaseKind) (subject : Expr) (by : Comparison) (v : View) (otherwise : Acts) (arms : List Arm) →
    taken (is_met names sites kind subject by v) (plain_arms names sites arms) otherwise
    ≡ taken_acts (is_item_met v (value_at by (sense_of names sites subject) v)) (map (arm_at by) (map (source_arm names sites kind) arms)) otherwise
taken_is names sites kind subject by v otherwise [] = refl
taken_is names sites kind subject by v otherwise (a ∷ arms) =
    λ i. if any_met names sites kind subject by v (label_items a.label) i then acts_of names sites a.body else taken_is names sites kind subject by v otherwise arms i

compared_is : (names : List Entry) (sites : List ℕ) (kind : CaseKind) (subject : Expr) (by : Comparison) (arms : List Arm) →
    Branch (λ v. taken (is_met names sites kind subject by v) (plain_arms names sites arms) (default_of (plain_arms names sites arms))) End
    ≡ compared_acts by (sense_of names sites subject) (map (source_arm names sites kind) arms)
compared_is names sites kind subject by arms =
    ap (λ (f : View → Acts). Branch f End)
    (fun_ext (λ v. taken_is names sites kind subject by v (default_of (plain_arms names sites arms)) arms)
    ∙ ap {B = View → Acts} (λ (otherwise : Acts) (v : View). taken_acts (is_item_met v (value_at by (sense_of names sites subject) v)) (map (arm_at by) (map (source_arm names sites kind) arms)) otherwise)
    (defaults_are names sites kind by arms))

pub case_is : (names : List Entry) (sites : List ℕ) (kind : CaseKind) (subject : Expr) (arms : List Arm) →
    case_acts names sites kind subject (map (arm_acts names sites) arms) ≡ case_of (sense_of names sites subject) (map (source_arm names sites kind) arms)
case_is names sites kind subject arms =
    ap (case_acts names sites kind subject) (arms_map names sites arms)
    ∙ compared_is names sites kind subject (comparison_of names sites subject (labels_of (plain_arms names sites arms))) arms
    ∙ ap (λ (by : Comparison). compared_acts by (sense_of names sites subject) (map (source_arm names sites kind) arms)) (comparison_is names sites kind subject arms)

-- ---- more items behind others

greatest_append : (xs ys : List Sense) (w : ℕ) → greatest_width (xs ++ ys) w ≡ greatest_width ys (greatest_width xs w)
greatest_append [] ys w = refl
greatest_append (x ∷ xs) ys w = greatest_append xs ys (max w x.width)

signed_append : (xs ys : List Sense) (s : Bool) → all_signed (xs ++ ys) s ≡ all_signed ys (all_signed xs s)
signed_append [] ys s = refl
signed_append (x ∷ xs) ys s = signed_append xs ys (s && x.signed)

pub behind_append : (by : Comparison) (xs ys : List Sense) → comparison_behind by (xs ++ ys) ≡ comparison_behind (comparison_behind by xs) ys
behind_append by xs ys = λ i. record { width = greatest_append xs ys by.width i; signed = signed_append xs ys by.signed i }
