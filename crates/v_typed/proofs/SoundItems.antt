-- Targets, statements and items are sound whose marks keep the rules of numbers, bounds and concatenations; so those of a
-- module are that keeps the rules of declarations and expressions.
use Rattle.std.proofs.Common.{◌≡◌, ℕ, List, [], ◌∷◌, ◌++◌, map, flat_map, Bool, true, false, Option, None, Some, refl, sym, ap, ◌∙◌, subst}
use Rattle.std.specs.Prelude.{◌&&◌, ◌||◌}
use Rattle.std.specs.List.{list_all}
use Rattle.std.proofs.lemmas.Bool.{and_from}
use Rattle.std.proofs.lemmas.List.Concat.{flat_map-cons}
use Rattle.v_syntax.specs.declared.expr.Expr.{Expr}
use Rattle.v_syntax.specs.declared.expr.Placed.{Placed}
use Rattle.v_syntax.specs.declared.stmt.Target.{Target}
use Rattle.v_syntax.specs.declared.stmt.Target.TheOpen.{Target-F}
use Rattle.v_syntax.specs.declared.stmt.Target.TheOpen as t
use Rattle.v_syntax.specs.declared.stmt.Target.TheViews.{roll-Target}
use Rattle.v_syntax.specs.declared.stmt.Target.TheFolds.{map-Target, para-roll-Target, ind-Target}
use Rattle.v_syntax.specs.declared.stmt.Label.{Label}
use Rattle.v_syntax.specs.declared.stmt.Label.TheVariants as l
use Rattle.v_syntax.specs.declared.stmt.CaseKind.{CaseKind}
use Rattle.v_syntax.specs.declared.stmt.Arm.{Arm}
use Rattle.v_syntax.specs.declared.stmt.Stmt.{Stmt}
use Rattle.v_syntax.specs.declared.stmt.Stmt.TheOpen.{Stmt-F, Arm-F}
use Rattle.v_syntax.specs.declared.stmt.Stmt.TheOpen as s
use Rattle.v_syntax.specs.declared.stmt.Stmt.TheViews.{roll-Stmt, roll-Arm}
use Rattle.v_syntax.specs.declared.stmt.Stmt.TheFolds.{map-Stmt, map-Arm, fold-Arm, fold-roll-Stmt, fold-roll-Arm, ind-Stmt}
use Rattle.v_syntax.specs.declared.module.Setting.{Setting}
use Rattle.v_syntax.specs.declared.module.Declared.{Declared}
use Rattle.v_syntax.specs.declared.module.Item.{Item}
use Rattle.v_syntax.specs.declared.module.Item.TheVariants as i
use Rattle.v_syntax.specs.declared.module.Module.{Module}
use Rattle.v_meaning.specs.declared.names.Entry.{Entry}
use Rattle.v_meaning.specs.Declarations.{names_of, joined_lists}
use Rattle.v_meaning.specs.Statements.{label_items}
use Rattle.v_meaning.specs.Proper.{is_sound, is_between_1_and_128, is_definite_target}
use Rattle.v_meaning.specs.Marks.{Mark, marks_of, placed_marks, range_marks, targets_marks, targets_width, joined_targets_bits, target_mark_step, target_marks, item_marks, ArmMarks, label_marks, is_default, arms_marks, stmt_mark_step, stmt_marks, parameter_marks, declared_marks, port_marks, assign_marks, event_marks, module_item_marks}
use Rattle.v_meaning.specs.Broken.{places_of, first_fault, typing_rules}
use Rattle.v_typing.specs.Sound.{all_sound, JudgedTarget, judged_targets, sound_target_step, is_sound_target, sound_stmt_step, sound_arm_step, is_sound_stmt, is_sound_value, is_sound_item, are_sound_items}
use Rattle.v_typed.proofs.KeptMarks.{AreKept, kept_left, kept_right, module_kept}
use Rattle.v_typed.proofs.SoundExprs.{themselves, bits_between, sound_expr, sound_item}

-- ---- lists

-- the elements of a list are sound, where each is whose marks keep the rules
each_sound : {A : Type 0} (names : List Entry) (marks : A → List Mark) (sound : A → Bool) → ((x : A) → AreKept names (marks x) → sound x ≡ true) →
    (xs : List A) → AreKept names (flat_map marks xs) → list_all sound xs ≡ true
each_sound names marks sound one [] h = refl
each_sound names marks sound one (x ∷ xs) h =
    let both = subst (λ (l : List Mark). AreKept names l) (flat_map-cons marks x xs) h in
    and_from (sound x) (list_all sound xs) (one x (kept_left names (marks x) (flat_map marks xs) both))
    (each_sound names marks sound one xs (kept_right names (marks x) (flat_map marks xs) both))

-- ---- targets

IsJudged : List Entry → Target → Type 0
IsJudged names x = AreKept names (target_marks names x) → is_sound_target names x ≡ true

abbrev marked : List Entry → Target → Target × List Mark
marked names x = (x, target_marks names x)

abbrev judged : List Entry → Target → JudgedTarget
judged names x = (x, is_sound_target names x)

target_rolled : (names : List Entry) (x : Target-F Target) →
    (AreKept names (target_mark_step names (map-Target Target (Target × List Mark) (marked names) x)) → sound_target_step names (map-Target Target JudgedTarget (judged names) x) ≡ true) →
    IsJudged names (roll-Target x)
unfolding IsJudged
target_rolled names x f h =
    para-roll-Target Bool (sound_target_step names) x ∙ f (subst (λ (marks : List Mark). AreKept names marks) (para-roll-Target (List Mark) (target_mark_step names) x) h)

abbrev Held : List Entry → Type 0
Held names = (x : Target) × IsJudged names x

abbrev plain : (names : List Entry) → Held names → Target
plain names x = x.0

targets_sound : (names : List Entry) (xs : List (Held names)) → AreKept names (targets_marks (map (marked names) (map (plain names) xs))) →
    list_all (λ (x : JudgedTarget). x.1) (map (judged names) (map (plain names) xs)) ≡ true
unfolding IsJudged
targets_sound names [] h = refl
targets_sound names (x ∷ xs) h =
    let more : List Mark = targets_marks (map (marked names) (map (plain names) xs)) in
    and_from (is_sound_target names x.0) (list_all (λ (x : JudgedTarget). x.1) (map (judged names) (map (plain names) xs)))
    (x.1 (kept_left names (target_marks names x.0) more h)) (targets_sound names xs (kept_right names (target_marks names x.0) more h))

concat_sound : (names : List Entry) (brace : ℕ) (xs : List (Held names)) →
    AreKept names (target_mark_step names (t.Concat brace (map (marked names) (map (plain names) xs)))) →
    sound_target_step names (t.Concat brace (map (judged names) (map (plain names) xs))) ≡ true
concat_sound names brace xs h =
    let parts : List Target = map (plain names) xs in
    let between = bits_between (list_all (is_definite_target names) parts) (targets_width names parts)
    (sym (ap (λ (ys : List Target). is_between_1_and_128 (joined_targets_bits names ys)) (themselves (target_marks names) parts)) ∙ h.0) in
    and_from (list_all (λ (x : JudgedTarget). x.1) (map (judged names) parts)) (is_between_1_and_128 (Some (targets_width names (judged_targets (map (judged names) parts)))))
    (targets_sound names xs h.1)
    (ap (λ (ys : List Target). is_between_1_and_128 (Some (targets_width names ys))) (themselves (is_sound_target names) parts) ∙ between)

layer_judged : (names : List Entry) (x : Target-F Target) (y : Target-F ((x : Target) × IsJudged names x)) → map-Target ((x : Target) × IsJudged names x) Target (λ e. e.0) y ≡ x → IsJudged names (roll-Target x)
unfolding IsJudged
layer_judged names x (t.Name n) is = subst (λ z. IsJudged names (roll-Target z)) is (target_rolled names (t.Name n) (λ h. refl))
layer_judged names x (t.Select n bracket index) is = subst (λ z. IsJudged names (roll-Target z)) is (target_rolled names (t.Select n bracket index) (λ h. sound_expr names index h.1))
layer_judged names x (t.Part n r) is = subst (λ z. IsJudged names (roll-Target z)) is (target_rolled names (t.Part n r) (λ h. h.0))
layer_judged names x (t.Concat brace xs) is =
    subst (λ z. IsJudged names (roll-Target z)) is (target_rolled names (t.Concat brace (map (plain names) xs)) (concat_sound names brace xs))

sound_target : (names : List Entry) (x : Target) → AreKept names (target_marks names x) → is_sound_target names x ≡ true
unfolding IsJudged
sound_target names x h = let all : (x : Target) → IsJudged names x = ind-Target (IsJudged names) (layer_judged names) in all x h

-- ---- statements

IsJudgedStmt : List Entry → Stmt → Type 0
IsJudgedStmt names x = AreKept names (stmt_marks names x) → is_sound_stmt names x ≡ true

abbrev IsJudgedArm : List Entry → Arm → Type 0
IsJudgedArm names a = IsJudgedStmt names a.body

abbrev mark_arm : Arm-F (List Mark) ArmMarks → ArmMarks
mark_arm arm = record { label = arm.label; body = arm.body }

abbrev arm_marks : List Entry → Arm → ArmMarks
arm_marks names = fold-Arm (List Mark) ArmMarks (stmt_mark_step names) mark_arm

abbrev is_sound_arm : List Entry → Arm → Bool
is_sound_arm names = fold-Arm Bool Bool (sound_stmt_step names) (sound_arm_step names)

abbrev marks_layer : List Entry → Stmt-F Stmt Arm → List Mark
marks_layer names x = stmt_mark_step names (map-Stmt Stmt Arm (List Mark) ArmMarks (stmt_marks names) (arm_marks names) x)

abbrev sound_layer : List Entry → Stmt-F Stmt Arm → Bool
sound_layer names x = sound_stmt_step names (map-Stmt Stmt Arm Bool Bool (is_sound_stmt names) (is_sound_arm names) x)

rolled : (names : List Entry) (x : Stmt-F Stmt Arm) → (AreKept names (marks_layer names x) → sound_layer names x ≡ true) → IsJudgedStmt names (roll-Stmt x)
unfolding IsJudgedStmt
rolled names x f h =
    fold-roll-Stmt Bool Bool (sound_stmt_step names) (sound_arm_step names) x
    ∙ f (subst (λ (marks : List Mark). AreKept names marks) (fold-roll-Stmt (List Mark) ArmMarks (stmt_mark_step names) mark_arm x) h)

abbrev HeldStmt : List Entry → Type 0
HeldStmt names = (x : Stmt) × IsJudgedStmt names x

abbrev HeldArm : List Entry → Type 0
HeldArm names = (a : Arm) × IsJudgedArm names a

abbrev plain_stmt : (names : List Entry) → HeldStmt names → Stmt
plain_stmt names x = x.0

abbrev plain_arm : (names : List Entry) → HeldArm names → Arm
plain_arm names x = x.0

body_sound : (names : List Entry) (xs : List (HeldStmt names)) → AreKept names (joined_lists (map (stmt_marks names) (map (plain_stmt names) xs))) →
    list_all (λ one. one) (map (is_sound_stmt names) (map (plain_stmt names) xs)) ≡ true
unfolding IsJudgedStmt
body_sound names [] h = refl
body_sound names (x ∷ xs) h =
    let more : List (List Mark) = map (stmt_marks names) (map (plain_stmt names) xs) in
    let both = subst (λ (l : List Mark). AreKept names l) (flat_map-cons (λ (l : List Mark). l) (stmt_marks names x.0) more) h in
    and_from (is_sound_stmt names x.0) (list_all (λ one. one) (map (is_sound_stmt names) (map (plain_stmt names) xs)))
    (x.1 (kept_left names (stmt_marks names x.0) (joined_lists more) both)) (body_sound names xs (kept_right names (stmt_marks names x.0) (joined_lists more) both))

label_sound : (names : List Entry) (kind : CaseKind) (met : Bool) (label : Label) → AreKept names (label_marks names kind met label) → all_sound names (label_items label) ≡ true
label_sound names kind met (l.Items xs) h = each_sound names (item_marks names kind) (is_sound names) (sound_item names kind) xs h
label_sound names kind met (l.Default at) h = refl

arm_marked : (names : List Entry) (a : Arm) → arm_marks names a ≡ record { label = a.label; body = stmt_marks names a.body }
arm_marked names a = fold-roll-Arm (List Mark) ArmMarks (stmt_mark_step names) mark_arm (record { label = a.label; body = a.body })

arm_judged : (names : List Entry) (a : Arm) → is_sound_arm names a ≡ (all_sound names (label_items a.label) && is_sound_stmt names a.body)
arm_judged names a = fold-roll-Arm Bool Bool (sound_stmt_step names) (sound_arm_step names) (record { label = a.label; body = a.body })

arms_sound : (names : List Entry) (kind : CaseKind) (met : Bool) (arms : List (HeldArm names)) →
    AreKept names (arms_marks names kind met (map (arm_marks names) (map (plain_arm names) arms))) →
    list_all (λ arm. arm) (map (is_sound_arm names) (map (plain_arm names) arms)) ≡ true
unfolding IsJudgedStmt
arms_sound names kind met [] h = refl
arms_sound names kind met (a ∷ arms) h =
    let label : List Mark = label_marks names kind met a.0.label in
    let body : List Mark = stmt_marks names a.0.body in
    let more : List ArmMarks = map (arm_marks names) (map (plain_arm names) arms) in
    let rest : List Mark = arms_marks names kind (met || is_default a.0.label) more in
    let all = subst (λ (m : ArmMarks). AreKept names (label_marks names kind met m.label ++ m.body ++ arms_marks names kind (met || is_default m.label) more)) (arm_marked names a.0) h in
    let first = kept_left names (label ++ body) rest all in
    and_from (is_sound_arm names a.0) (list_all (λ arm. arm) (map (is_sound_arm names) (map (plain_arm names) arms)))
    (arm_judged names a.0
    ∙ and_from (all_sound names (label_items a.0.label)) (is_sound_stmt names a.0.body) (label_sound names kind met a.0.label (kept_left names label body first)) (a.1 (kept_right names label body first)))
    (arms_sound names kind (met || is_default a.0.label) arms (kept_right names (label ++ body) rest all))

if_else_sound : (names : List Entry) (x : Expr) (a b : HeldStmt names) → AreKept names (marks_layer names (s.IfElse x a.0 b.0)) → sound_layer names (s.IfElse x a.0 b.0) ≡ true
unfolding IsJudgedStmt
if_else_sound names x a b h =
    let first = kept_left names (marks_of names x ++ stmt_marks names a.0) (stmt_marks names b.0) h in
    and_from (is_sound names x) (is_sound_stmt names a.0 && is_sound_stmt names b.0) (sound_expr names x (kept_left names (marks_of names x) (stmt_marks names a.0) first))
    (and_from (is_sound_stmt names a.0) (is_sound_stmt names b.0) (a.1 (kept_right names (marks_of names x) (stmt_marks names a.0) first))
    (b.1 (kept_right names (marks_of names x ++ stmt_marks names a.0) (stmt_marks names b.0) h)))

layer_judged_stmt : (names : List Entry) (x : Stmt-F Stmt Arm) (y : Stmt-F ((x : Stmt) × IsJudgedStmt names x) ((a : Arm) × IsJudgedArm names a)) →
    map-Stmt ((x : Stmt) × IsJudgedStmt names x) ((a : Arm) × IsJudgedArm names a) Stmt Arm (λ e. e.0) (λ e. e.0) y ≡ x → IsJudgedStmt names (roll-Stmt x)
unfolding IsJudgedStmt
layer_judged_stmt names x s.Null is = subst (λ z. IsJudgedStmt names (roll-Stmt z)) is (rolled names s.Null (λ h. refl))
layer_judged_stmt names x (s.Block xs) is = subst (λ z. IsJudgedStmt names (roll-Stmt z)) is (rolled names (s.Block (map (plain_stmt names) xs)) (body_sound names xs))
layer_judged_stmt names x (s.If c a) is =
    subst (λ z. IsJudgedStmt names (roll-Stmt z)) is
    (rolled names (s.If c a.0) (λ h. and_from (is_sound names c) (is_sound_stmt names a.0) (sound_expr names c (kept_left names (marks_of names c) (stmt_marks names a.0) h)) (a.1 (kept_right names (marks_of names c) (stmt_marks names a.0) h))))
layer_judged_stmt names x (s.IfElse c a b) is = subst (λ z. IsJudgedStmt names (roll-Stmt z)) is (rolled names (s.IfElse c a.0 b.0) (if_else_sound names c a b))
layer_judged_stmt names x (s.Case kind subject arms) is =
    let more : List Mark = arms_marks names kind false (map (arm_marks names) (map (plain_arm names) arms)) in
    subst (λ z. IsJudgedStmt names (roll-Stmt z)) is
    (rolled names (s.Case kind subject (map (plain_arm names) arms))
    (λ h. and_from (is_sound names subject) (list_all (λ arm. arm) (map (is_sound_arm names) (map (plain_arm names) arms)))
    (sound_expr names subject (kept_left names (marks_of names subject) more h)) (arms_sound names kind false arms (kept_right names (marks_of names subject) more h))))
layer_judged_stmt names x (s.Assign target kind value) is =
    subst (λ z. IsJudgedStmt names (roll-Stmt z)) is
    (rolled names (s.Assign target kind value)
    (λ h. and_from (is_sound_target names target) (is_sound names value) (sound_target names target (kept_left names (target_marks names target) (marks_of names value) h))
    (sound_expr names value (kept_right names (target_marks names target) (marks_of names value) h))))

layer_judged_arm : (names : List Entry) (x : Arm-F Stmt Arm) (y : Arm-F ((x : Stmt) × IsJudgedStmt names x) ((a : Arm) × IsJudgedArm names a)) →
    map-Arm ((x : Stmt) × IsJudgedStmt names x) ((a : Arm) × IsJudgedArm names a) Stmt Arm (λ e. e.0) (λ e. e.0) y ≡ x → IsJudgedArm names (roll-Arm x)
layer_judged_arm names x y is = subst (λ (z : Arm-F Stmt Arm). IsJudgedStmt names z.body) is y.body.1

sound_stmt : (names : List Entry) (x : Stmt) → AreKept names (stmt_marks names x) → is_sound_stmt names x ≡ true
unfolding IsJudgedStmt
sound_stmt names x h =
    let all : (x : Stmt) → IsJudgedStmt names x = ind-Stmt (IsJudgedStmt names) (IsJudgedArm names) (layer_judged_stmt names) (layer_judged_arm names) in all x h

-- ---- items

sound_value : (names : List Entry) (x : Option Placed) → AreKept names (placed_marks names x) → is_sound_value names x ≡ true
sound_value names None h = refl
sound_value names (Some x) h = sound_expr names x.expr h

sound_module_item : (names : List Entry) (x : Item) → AreKept names (module_item_marks names x) → is_sound_item names x ≡ true
sound_module_item names (i.Parameters group) h = refl
sound_module_item names (i.LocalParameters group) h = refl
sound_module_item names (i.Wires signed range nets) h =
    each_sound names (declared_marks names) (λ (d : Declared). is_sound_value names d.value) (λ d k. sound_value names d.value k.1) nets
    (kept_right names (range_marks names range) (flat_map (declared_marks names) nets) h)
sound_module_item names (i.Regs signed range variables) h = refl
sound_module_item names (i.Assigns settings) h =
    each_sound names (assign_marks names) (λ (s : Setting). is_sound names s.value.expr) (λ s k. sound_expr names s.value.expr k.1) settings h
sound_module_item names (i.Always event body) h = sound_stmt names body (kept_right names (event_marks event) (stmt_marks names body) h)

pub sound_items : (m : Module) → first_fault (places_of m) typing_rules ≡ None → are_sound_items (names_of m) m.items ≡ true
sound_items m h =
    let names : List Entry = names_of m in
    each_sound names (module_item_marks names) (is_sound_item names) (sound_module_item names) m.items
    (kept_right names (flat_map (parameter_marks names) m.parameters ++ flat_map (port_marks names) m.ports) (flat_map (module_item_marks names) m.items) (module_kept m h))

-- over names that are those of the module
pub sound_over : (m : Module) (names : List Entry) → names ≡ names_of m → first_fault (places_of m) typing_rules ≡ None → are_sound_items names m.items ≡ true
sound_over m names declared h = subst (λ (l : List Entry). are_sound_items l m.items ≡ true) (sym declared) (sound_items m h)
