-- What stands in a sound expression, target, statement or item is sound.
use Rattle.std.proofs.Common.{◌≡◌, ◌<◌, ℕ, List, [], ◌∷◌, map, length, get_or, Bool, true, false, Option, Some, refl, ap, sym, ◌∙◌}
use Rattle.std.specs.Prelude.{◌&&◌, not}
use Rattle.std.specs.List.{list_all}
use Rattle.std.proofs.lemmas.List.Folds.{list_all-map, list_all_at}
use Rattle.v_syntax.specs.declared.token.Ident.{Ident}
use Rattle.v_syntax.specs.declared.token.Cast.{Cast}
use Rattle.v_syntax.specs.declared.expr.Expr.{Expr}
use Rattle.v_syntax.specs.declared.expr.Expr.TheVariants as e
use Rattle.v_syntax.specs.declared.expr.Expr.TheOpen as o
use Rattle.v_syntax.specs.declared.expr.Expr.TheFolds.{para-roll-Expr}
use Rattle.v_syntax.specs.declared.expr.Number.{Number}
use Rattle.v_syntax.specs.declared.expr.Range.{Range}
use Rattle.v_syntax.specs.declared.expr.UnaryOperator.{UnaryOperator}
use Rattle.v_syntax.specs.declared.expr.BinaryOperator.{BinaryOperator}
use Rattle.v_syntax.specs.declared.stmt.Target.{Target}
use Rattle.v_syntax.specs.declared.stmt.Target.TheVariants as t
use Rattle.v_syntax.specs.declared.stmt.Target.TheOpen as q
use Rattle.v_syntax.specs.declared.stmt.Target.TheFolds.{para-roll-Target}
use Rattle.v_syntax.specs.declared.stmt.AssignKind.{AssignKind}
use Rattle.v_syntax.specs.declared.stmt.CaseKind.{CaseKind}
use Rattle.v_syntax.specs.declared.stmt.Label.{Label}
use Rattle.v_syntax.specs.declared.stmt.Label.TheVariants as l
use Rattle.v_syntax.specs.declared.stmt.Arm.{Arm}
use Rattle.v_syntax.specs.declared.stmt.Stmt.{Stmt}
use Rattle.v_syntax.specs.declared.stmt.Stmt.TheVariants as s
use Rattle.v_syntax.specs.declared.stmt.Stmt.TheOpen as p
use Rattle.v_syntax.specs.declared.stmt.Stmt.TheFolds.{fold-Arm, fold-roll-Stmt, fold-roll-Arm}
use Rattle.v_syntax.specs.declared.module.Event.{Event}
use Rattle.v_syntax.specs.declared.module.Setting.{Setting}
use Rattle.v_syntax.specs.declared.module.Declared.{Declared}
use Rattle.v_syntax.specs.declared.module.Item.{Item}
use Rattle.v_syntax.specs.declared.module.Item.TheVariants as i
use Rattle.v_meaning.specs.declared.names.Entry.{Entry}
use Rattle.v_meaning.specs.Literals.{is_wrong_number}
use Rattle.v_meaning.specs.Names.{or_zero}
use Rattle.v_meaning.specs.Declarations.{constant_value}
use Rattle.v_meaning.specs.Statements.{label_items}
use Rattle.v_meaning.specs.Marks.{targets_width}
use Rattle.v_meaning.specs.Proper.{Judged, are_sound, is_proper_operand, can_join, is_between_1_and_128, sound_step, is_sound}
use Rattle.v_typing.specs.Sound.{JudgedTarget, judged_targets, all_sound, sound_target_step, is_sound_target, sound_stmt_step, sound_arm_step, is_sound_stmt, is_sound_item}
use Rattle.v_sites.specs.Adding.{is_sound_link, is_sound_arm, is_sound_net, is_sound_setting}

pub first_of : (a b : Bool) → (a && b) ≡ true → a ≡ true
first_of true b h = refl
first_of false b h = absurd (cc h)

pub second_of : (a b : Bool) → (a && b) ≡ true → b ≡ true
second_of true b h = h
second_of false b h = absurd (cc h)

not_false : (b : Bool) → (b ≡ false → true ≡ false) → b ≡ true
not_false true h = refl
not_false false h = absurd (cc (h refl))

-- one of these
pub one_of : {A : Type 0} (test : A → Bool) (xs : List A) (i : ℕ) (x : A) → i < length xs → x ≡ get_or xs i x → list_all test xs ≡ true → test x ≡ true
one_of test xs i x h is all = not_false (test x) (λ no. sym all ∙ list_all_at test xs i x h (ap test (sym is) ∙ no))

-- ---- expressions

pub number_sound : (names : List Entry) (x : Expr) (n : Number) → x ≡ e.Number n → is_sound names x ≡ true → not (is_wrong_number n.spelling) ≡ true
number_sound names x n is h = sym (ap (is_sound names) (is ∙ sym (e.rolls-Number n)) ∙ para-roll-Expr Bool (sound_step names) (o.Number n)) ∙ h

pub index_sound : (names : List Entry) (x index j : Expr) (n : Ident) (bracket : ℕ) → x ≡ e.Select n bracket index → j ≡ index → is_sound names x ≡ true → is_sound names j ≡ true
index_sound names x index j n bracket is same h =
    ap (is_sound names) same ∙ sym (ap (is_sound names) (is ∙ sym (e.rolls-Select n bracket index)) ∙ para-roll-Expr Bool (sound_step names) (o.Select n bracket index)) ∙ h

pub unary_sound : (names : List Entry) (x a b : Expr) (op : UnaryOperator) → x ≡ e.Unary op a → b ≡ a → is_sound names x ≡ true → is_sound names b ≡ true
unary_sound names x a b op is same h =
    ap (is_sound names) same ∙ sym (ap (is_sound names) (is ∙ sym (e.rolls-Unary op a)) ∙ para-roll-Expr Bool (sound_step names) (o.Unary op a)) ∙ h

pub cast_sound : (names : List Entry) (x a b : Expr) (sign : Cast) → x ≡ e.Cast sign a → b ≡ a → is_sound names x ≡ true → is_sound names b ≡ true
cast_sound names x a b sign is same h =
    ap (is_sound names) same ∙ sym (ap (is_sound names) (is ∙ sym (e.rolls-Cast sign a)) ∙ para-roll-Expr Bool (sound_step names) (o.Cast sign a)) ∙ h

conditional : (names : List Entry) (x c a b : Expr) → x ≡ e.Conditional c a b → is_sound names x ≡ true → (is_sound names c && is_sound names a && is_sound names b) ≡ true
conditional names x c a b is h =
    sym (ap (is_sound names) (is ∙ sym (e.rolls-Conditional c a b)) ∙ para-roll-Expr Bool (sound_step names) (o.Conditional c a b)) ∙ h

pub condition_sound : (names : List Entry) (x c a b d : Expr) → x ≡ e.Conditional c a b → d ≡ c → is_sound names x ≡ true → is_sound names d ≡ true
condition_sound names x c a b d is same h =
    ap (is_sound names) same ∙ first_of (is_sound names c) (is_sound names a) (first_of (is_sound names c && is_sound names a) (is_sound names b) (conditional names x c a b is h))

pub then_sound : (names : List Entry) (x c a b d : Expr) → x ≡ e.Conditional c a b → d ≡ a → is_sound names x ≡ true → is_sound names d ≡ true
then_sound names x c a b d is same h =
    ap (is_sound names) same ∙ second_of (is_sound names c) (is_sound names a) (first_of (is_sound names c && is_sound names a) (is_sound names b) (conditional names x c a b is h))

pub otherwise_sound : (names : List Entry) (x c a b d : Expr) → x ≡ e.Conditional c a b → d ≡ b → is_sound names x ≡ true → is_sound names d ≡ true
otherwise_sound names x c a b d is same h =
    ap (is_sound names) same ∙ second_of (is_sound names c && is_sound names a) (is_sound names b) (conditional names x c a b is h)

chain : (names : List Entry) (x a : Expr) (links : List (BinaryOperator × Expr)) → x ≡ e.Chain a links → is_sound names x ≡ true →
    (is_sound names a && list_all (is_sound_link names) links) ≡ true
chain names x a links is h =
    sym
    (ap (is_sound names) (is ∙ sym (e.rolls-Chain a links)) ∙ para-roll-Expr Bool (sound_step names) (o.Chain a links)
    ∙ ap (λ (b : Bool). is_sound names a && b)
    (list_all-map (λ (l : BinaryOperator × Judged). l.1.1) (λ (l : BinaryOperator × Expr). (l.0, (l.1, is_sound names l.1))) links))
    ∙ h

pub head_sound : (names : List Entry) (x a b : Expr) (links : List (BinaryOperator × Expr)) → x ≡ e.Chain a links → b ≡ a → is_sound names x ≡ true → is_sound names b ≡ true
head_sound names x a b links is same h = ap (is_sound names) same ∙ first_of (is_sound names a) (list_all (is_sound_link names) links) (chain names x a links is h)

pub links_are_sound : (names : List Entry) (x a : Expr) (links more : List (BinaryOperator × Expr)) → x ≡ e.Chain a links → more ≡ links → is_sound names x ≡ true →
    list_all (is_sound_link names) more ≡ true
links_are_sound names x a links more is same h =
    ap (λ (ls : List (BinaryOperator × Expr)). list_all (is_sound_link names) ls) same
    ∙ second_of (is_sound names a) (list_all (is_sound_link names) links) (chain names x a links is h)

parts_map : (names : List Entry) (parts : List Expr) → are_sound (map (λ (y : Expr). (y, is_sound names y)) parts) ≡ list_all (is_sound names) parts
parts_map names parts = list_all-map (λ (x : Judged). x.1) (λ (y : Expr). (y, is_sound names y)) parts

pub parts_sound : (names : List Entry) (x : Expr) (brace : ℕ) (parts more : List Expr) → x ≡ e.Concat brace parts → more ≡ parts → is_sound names x ≡ true → list_all (is_sound names) more ≡ true
parts_sound names x brace parts more is same h =
    ap (λ (xs : List Expr). list_all (is_sound names) xs) same
    ∙ sym (parts_map names parts)
    ∙ first_of (are_sound (map (λ (y : Expr). (y, is_sound names y)) parts)) (can_join names 1 (map (λ (y : Expr). (y, is_sound names y)) parts))
    (sym (ap (is_sound names) (is ∙ sym (e.rolls-Concat brace parts)) ∙ para-roll-Expr Bool (sound_step names) (o.Concat brace parts)) ∙ h)

pub copies_sound : (names : List Entry) (x c : Expr) (brace at inner : ℕ) (parts more : List Expr) → x ≡ e.Replicate brace at c inner parts → more ≡ parts → is_sound names x ≡ true →
    list_all (is_sound names) more ≡ true
copies_sound names x c brace at inner parts more is same h =
    ap (λ (xs : List Expr). list_all (is_sound names) xs) same
    ∙ sym (parts_map names parts)
    ∙ second_of (is_proper_operand names (c, is_sound names c) && is_between_1_and_128 (constant_value names c)) (are_sound (map (λ (y : Expr). (y, is_sound names y)) parts))
    (first_of (is_proper_operand names (c, is_sound names c) && is_between_1_and_128 (constant_value names c) && are_sound (map (λ (y : Expr). (y, is_sound names y)) parts))
    (can_join names (or_zero (constant_value names c)) (map (λ (y : Expr). (y, is_sound names y)) parts))
    (sym (ap (is_sound names) (is ∙ sym (e.rolls-Replicate brace at c inner parts)) ∙ para-roll-Expr Bool (sound_step names) (o.Replicate brace at c inner parts)) ∙ h))

-- ---- targets

pub target_index_sound : (names : List Entry) (x : Target) (n : Ident) (bracket : ℕ) (index : Expr) → x ≡ t.Select n bracket index → is_sound_target names x ≡ true → is_sound names index ≡ true
target_index_sound names x n bracket index is h =
    sym (ap (is_sound_target names) (is ∙ sym (t.rolls-Select n bracket index)) ∙ para-roll-Target Bool (sound_target_step names) (q.Select n bracket index)) ∙ h

pub targets_are_sound : (names : List Entry) (x : Target) (brace : ℕ) (parts more : List Target) → x ≡ t.Concat brace parts → more ≡ parts → is_sound_target names x ≡ true →
    list_all (is_sound_target names) more ≡ true
targets_are_sound names x brace parts more is same h =
    ap (λ (xs : List Target). list_all (is_sound_target names) xs) same
    ∙ sym (list_all-map (λ (y : JudgedTarget). y.1) (λ (y : Target). (y, is_sound_target names y)) parts)
    ∙ first_of (list_all (λ (y : JudgedTarget). y.1) (map (λ (y : Target). (y, is_sound_target names y)) parts))
    (is_between_1_and_128 (Some (targets_width names (judged_targets (map (λ (y : Target). (y, is_sound_target names y)) parts)))))
    (sym (ap (is_sound_target names) (is ∙ sym (t.rolls-Concat brace parts)) ∙ para-roll-Target Bool (sound_target_step names) (q.Concat brace parts)) ∙ h)

-- ---- labels

pub items_sound : (names : List Entry) (label : Label) (xs ys : List Expr) → label ≡ l.Items xs → ys ≡ xs → all_sound names (label_items label) ≡ true → list_all (is_sound names) ys ≡ true
items_sound names label xs ys is same h =
    ap (λ (zs : List Expr). list_all (is_sound names) zs) same ∙ sym (ap (λ (m : Label). all_sound names (label_items m)) is) ∙ h

-- ---- statements

pub body_sound : (names : List Entry) (x : Stmt) (body more : List Stmt) → x ≡ s.Block body → more ≡ body → is_sound_stmt names x ≡ true → list_all (is_sound_stmt names) more ≡ true
body_sound names x body more is same h =
    ap (λ (xs : List Stmt). list_all (is_sound_stmt names) xs) same
    ∙ sym
    (ap (is_sound_stmt names) (is ∙ sym (s.rolls-Block body)) ∙ fold-roll-Stmt Bool Bool (sound_stmt_step names) (sound_arm_step names) (p.Block body)
    ∙ list_all-map (λ (one : Bool). one) (is_sound_stmt names) body)
    ∙ h

if_parts : (names : List Entry) (x a : Stmt) (c : Expr) → x ≡ s.If c a → is_sound_stmt names x ≡ true → (is_sound names c && is_sound_stmt names a) ≡ true
if_parts names x a c is h =
    sym (ap (is_sound_stmt names) (is ∙ sym (s.rolls-If c a)) ∙ fold-roll-Stmt Bool Bool (sound_stmt_step names) (sound_arm_step names) (p.If c a)) ∙ h

pub if_condition_sound : (names : List Entry) (x a : Stmt) (c : Expr) → x ≡ s.If c a → is_sound_stmt names x ≡ true → is_sound names c ≡ true
if_condition_sound names x a c is h = first_of (is_sound names c) (is_sound_stmt names a) (if_parts names x a c is h)

pub if_body_sound : (names : List Entry) (x a b : Stmt) (c : Expr) → x ≡ s.If c a → b ≡ a → is_sound_stmt names x ≡ true → is_sound_stmt names b ≡ true
if_body_sound names x a b c is same h = ap (is_sound_stmt names) same ∙ second_of (is_sound names c) (is_sound_stmt names a) (if_parts names x a c is h)

if_else_parts : (names : List Entry) (x a b : Stmt) (c : Expr) → x ≡ s.IfElse c a b → is_sound_stmt names x ≡ true → (is_sound names c && (is_sound_stmt names a && is_sound_stmt names b)) ≡ true
if_else_parts names x a b c is h =
    sym (ap (is_sound_stmt names) (is ∙ sym (s.rolls-IfElse c a b)) ∙ fold-roll-Stmt Bool Bool (sound_stmt_step names) (sound_arm_step names) (p.IfElse c a b)) ∙ h

pub if_else_condition_sound : (names : List Entry) (x a b : Stmt) (c : Expr) → x ≡ s.IfElse c a b → is_sound_stmt names x ≡ true → is_sound names c ≡ true
if_else_condition_sound names x a b c is h = first_of (is_sound names c) (is_sound_stmt names a && is_sound_stmt names b) (if_else_parts names x a b c is h)

pub if_else_then_sound : (names : List Entry) (x a b d : Stmt) (c : Expr) → x ≡ s.IfElse c a b → d ≡ a → is_sound_stmt names x ≡ true → is_sound_stmt names d ≡ true
if_else_then_sound names x a b d c is same h =
    ap (is_sound_stmt names) same
    ∙ first_of (is_sound_stmt names a) (is_sound_stmt names b) (second_of (is_sound names c) (is_sound_stmt names a && is_sound_stmt names b) (if_else_parts names x a b c is h))

pub if_else_otherwise_sound : (names : List Entry) (x a b d : Stmt) (c : Expr) → x ≡ s.IfElse c a b → d ≡ b → is_sound_stmt names x ≡ true → is_sound_stmt names d ≡ true
if_else_otherwise_sound names x a b d c is same h =
    ap (is_sound_stmt names) same
    ∙ second_of (is_sound_stmt names a) (is_sound_stmt names b) (second_of (is_sound names c) (is_sound_stmt names a && is_sound_stmt names b) (if_else_parts names x a b c is h))

abbrev judged_arm : List Entry → Arm → Bool
judged_arm names = fold-Arm Bool Bool (sound_stmt_step names) (sound_arm_step names)

arm_is : (names : List Entry) (a : Arm) → judged_arm names a ≡ is_sound_arm names a
arm_is names a = fold-roll-Arm Bool Bool (sound_stmt_step names) (sound_arm_step names) (record { label = a.label; body = a.body })

arms_map : (names : List Entry) (arms : List Arm) → list_all (λ (arm : Bool). arm) (map (judged_arm names) arms) ≡ list_all (is_sound_arm names) arms
arms_map names [] = refl
arms_map names (a ∷ arms) =
    ap (λ (b : Bool). b && list_all (λ (arm : Bool). arm) (map (judged_arm names) arms)) (arm_is names a) ∙ ap (λ (b : Bool). is_sound_arm names a && b) (arms_map names arms)

case_parts : (names : List Entry) (x : Stmt) (kind : CaseKind) (subject : Expr) (arms : List Arm) → x ≡ s.Case kind subject arms → is_sound_stmt names x ≡ true →
    (is_sound names subject && list_all (is_sound_arm names) arms) ≡ true
case_parts names x kind subject arms is h =
    sym
    (ap (is_sound_stmt names) (is ∙ sym (s.rolls-Case kind subject arms)) ∙ fold-roll-Stmt Bool Bool (sound_stmt_step names) (sound_arm_step names) (p.Case kind subject arms)
    ∙ ap (λ (b : Bool). is_sound names subject && b) (arms_map names arms))
    ∙ h

pub subject_sound : (names : List Entry) (x : Stmt) (kind : CaseKind) (subject : Expr) (arms : List Arm) → x ≡ s.Case kind subject arms → is_sound_stmt names x ≡ true → is_sound names subject ≡ true
subject_sound names x kind subject arms is h = first_of (is_sound names subject) (list_all (is_sound_arm names) arms) (case_parts names x kind subject arms is h)

pub arms_sound : (names : List Entry) (x : Stmt) (kind : CaseKind) (subject : Expr) (arms more : List Arm) → x ≡ s.Case kind subject arms → more ≡ arms → is_sound_stmt names x ≡ true →
    list_all (is_sound_arm names) more ≡ true
arms_sound names x kind subject arms more is same h =
    ap (λ (xs : List Arm). list_all (is_sound_arm names) xs) same
    ∙ second_of (is_sound names subject) (list_all (is_sound_arm names) arms) (case_parts names x kind subject arms is h)

assign_parts : (names : List Entry) (x : Stmt) (target : Target) (kind : AssignKind) (value : Expr) → x ≡ s.Assign target kind value → is_sound_stmt names x ≡ true →
    (is_sound_target names target && is_sound names value) ≡ true
assign_parts names x target kind value is h =
    sym (ap (is_sound_stmt names) (is ∙ sym (s.rolls-Assign target kind value)) ∙ fold-roll-Stmt Bool Bool (sound_stmt_step names) (sound_arm_step names) (p.Assign target kind value)) ∙ h

pub target_sound : (names : List Entry) (x : Stmt) (target other : Target) (kind : AssignKind) (value : Expr) → x ≡ s.Assign target kind value → other ≡ target → is_sound_stmt names x ≡ true →
    is_sound_target names other ≡ true
target_sound names x target other kind value is same h =
    ap (is_sound_target names) same ∙ first_of (is_sound_target names target) (is_sound names value) (assign_parts names x target kind value is h)

pub value_sound : (names : List Entry) (x : Stmt) (target : Target) (kind : AssignKind) (value : Expr) → x ≡ s.Assign target kind value → is_sound_stmt names x ≡ true → is_sound names value ≡ true
value_sound names x target kind value is h = second_of (is_sound_target names target) (is_sound names value) (assign_parts names x target kind value is h)

-- the label and the body of an arm
pub label_sound : (names : List Entry) (a : Arm) → is_sound_arm names a ≡ true → all_sound names (label_items a.label) ≡ true
label_sound names a h = first_of (all_sound names (label_items a.label)) (is_sound_stmt names a.body) h

pub arm_body_sound : (names : List Entry) (a : Arm) → is_sound_arm names a ≡ true → is_sound_stmt names a.body ≡ true
arm_body_sound names a h = second_of (all_sound names (label_items a.label)) (is_sound_stmt names a.body) h

-- ---- items

pub nets_sound : (names : List Entry) (x : Item) (signed : Bool) (range : Option Range) (nets ys : List Declared) → x ≡ i.Wires signed range nets → ys ≡ nets → is_sound_item names x ≡ true →
    list_all (is_sound_net names) ys ≡ true
nets_sound names x signed range nets ys is same h = ap (λ (zs : List Declared). list_all (is_sound_net names) zs) same ∙ sym (ap (is_sound_item names) is) ∙ h

pub settings_sound : (names : List Entry) (x : Item) (settings ys : List Setting) → x ≡ i.Assigns settings → ys ≡ settings → is_sound_item names x ≡ true → list_all (is_sound_setting names) ys ≡ true
settings_sound names x settings ys is same h = ap (λ (zs : List Setting). list_all (is_sound_setting names) zs) same ∙ sym (ap (is_sound_item names) is) ∙ h

pub process_sound : (names : List Entry) (x : Item) (event : Event) (body : Stmt) → x ≡ i.Always event body → is_sound_item names x ≡ true → is_sound_stmt names body ≡ true
process_sound names x event body is h = sym (ap (is_sound_item names) is) ∙ h
