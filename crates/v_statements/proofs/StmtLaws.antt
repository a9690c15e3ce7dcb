-- What each variant of a statement of the source does, and that the parts of a sound statement are sound.
use Rattle.std.proofs.Common.{◌≡◌, ap, sym, ◌∙◌, refl, ℕ, List, [], ◌∷◌, map, Bool, true, max}
use Rattle.std.specs.Prelude.{◌&&◌, ◌==◌, ◌%◌, ◌^◌, if◌then◌else◌}
use Rattle.std.specs.List.{list_all}
use Rattle.std.proofs.lemmas.List.Folds.{list_all-map}
use Rattle.v_syntax.specs.declared.expr.Expr.{Expr}
use Rattle.v_syntax.specs.declared.stmt.Target.{Target}
use Rattle.v_syntax.specs.declared.stmt.AssignKind.{AssignKind}
use Rattle.v_syntax.specs.declared.stmt.CaseKind.{CaseKind}
use Rattle.v_syntax.specs.declared.stmt.Arm.{Arm}
use Rattle.v_syntax.specs.declared.stmt.Stmt.{Stmt}
use Rattle.v_syntax.specs.declared.stmt.Stmt.TheVariants as s
use Rattle.v_syntax.specs.declared.stmt.Stmt.TheOpen as o
use Rattle.v_syntax.specs.declared.stmt.Stmt.TheFolds.{fold-Arm, fold-roll-Stmt, fold-roll-Arm}
use Rattle.v_meaning.specs.Views.{View, Write}
use Rattle.v_meaning.specs.Senses.{Sense, own}
use Rattle.v_meaning.specs.Acts.{Acts, End, Branch, sequence}
use Rattle.v_meaning.specs.declared.names.Entry.{Entry}
use Rattle.v_meaning.specs.Expressions.{sense_of}
use Rattle.v_meaning.specs.Proper.{is_sound}
use Rattle.v_meaning.specs.Targets.{TargetSense, target_of}
use Rattle.v_meaning.specs.Statements.{ArmActs, label_items, writes_of, assign_acts, if_acts, stmt_step, arm_step, acts_of}
use Rattle.v_core.specs.declared.typed.Typed.{Typed}
use Rattle.v_core.specs.declared.open.Open.{Open}
use Rattle.v_core.specs.declared.statement.TypedTarget.{TypedTarget}
use Rattle.v_core.specs.declared.statement.TypedStmt.{TypedStmt}
use Rattle.v_core.specs.Values.{Value, typed_value}
use Rattle.v_core.specs.Bodies.{body_value, sense_in}
use Rattle.v_core.specs.Statements.{ActsIn, target_in, writes_in, acts_in}
use Rattle.v_typing.specs.Sound.{all_sound, sound_stmt_step, sound_arm_step, is_sound_stmt, is_sound_target}
use Rattle.v_statements.specs.Sound.{is_sound_arm}
use Rattle.v_statements.specs.declared.cases.OpenArm.{OpenArm}
use Rattle.v_statements.specs.Cases.{case_of, source_arm, open_arm}
use Rattle.v_statements.proofs.TargetLaws.{first_of, second_of}
use Rattle.v_statements.proofs.CaseLaws.{case_is}

-- ---- statements of the source

pub when_null : (names : List Entry) (sites : List ℕ) (x : Stmt) → x ≡ s.Null → End ≡ acts_of names sites x
when_null names sites x is =
    sym (ap (acts_of names sites) (is ∙ sym s.rolls-Null) ∙ fold-roll-Stmt Acts ArmActs (stmt_step names sites) arm_step o.Null)

pub when_block : (names : List Entry) (sites : List ℕ) (x : Stmt) (body more : List Stmt) → x ≡ s.Block body → more ≡ body →
    sequence (map (acts_of names sites) more) ≡ acts_of names sites x
when_block names sites x body more is p =
    ap (λ (ys : List Stmt). sequence (map (acts_of names sites) ys)) p
    ∙ sym (ap (acts_of names sites) (is ∙ sym (s.rolls-Block body)) ∙ fold-roll-Stmt Acts ArmActs (stmt_step names sites) arm_step (o.Block body))

pub when_if : (names : List Entry) (sites : List ℕ) (x a b : Stmt) (c : Expr) → x ≡ s.If c a → b ≡ a →
    if_acts (sense_of names sites c) (acts_of names sites b) End ≡ acts_of names sites x
when_if names sites x a b c is p =
    ap (λ (y : Stmt). if_acts (sense_of names sites c) (acts_of names sites y) End) p
    ∙ sym (ap (acts_of names sites) (is ∙ sym (s.rolls-If c a)) ∙ fold-roll-Stmt Acts ArmActs (stmt_step names sites) arm_step (o.If c a))

pub when_if_else : (names : List Entry) (sites : List ℕ) (x a a' b b' : Stmt) (c : Expr) → x ≡ s.IfElse c a b → a' ≡ a → b' ≡ b →
    if_acts (sense_of names sites c) (acts_of names sites a') (acts_of names sites b') ≡ acts_of names sites x
when_if_else names sites x a a' b b' c is p q =
    (λ i. if_acts (sense_of names sites c) (acts_of names sites (p i)) (acts_of names sites (q i)))
    ∙ sym (ap (acts_of names sites) (is ∙ sym (s.rolls-IfElse c a b)) ∙ fold-roll-Stmt Acts ArmActs (stmt_step names sites) arm_step (o.IfElse c a b))

pub when_case : (names : List Entry) (sites : List ℕ) (x : Stmt) (kind : CaseKind) (subject : Expr) (arms more : List Arm) → x ≡ s.Case kind subject arms → more ≡ arms →
    case_of (sense_of names sites subject) (map (source_arm names sites kind) more) ≡ acts_of names sites x
when_case names sites x kind subject arms more is p =
    ap (λ (ys : List Arm). case_of (sense_of names sites subject) (map (source_arm names sites kind) ys)) p ∙ sym (case_is names sites kind subject arms)
    ∙ sym (ap (acts_of names sites) (is ∙ sym (s.rolls-Case kind subject arms)) ∙ fold-roll-Stmt Acts ArmActs (stmt_step names sites) arm_step (o.Case kind subject arms))

pub when_assign : (names : List Entry) (sites : List ℕ) (x : Stmt) (target other : Target) (kind : AssignKind) (value : Expr) → x ≡ s.Assign target kind value → other ≡ target →
    assign_acts kind (writes_of (target_of names sites other) (sense_of names sites value)) ≡ acts_of names sites x
when_assign names sites x target other kind value is p =
    ap (λ (y : Target). assign_acts kind (writes_of (target_of names sites y) (sense_of names sites value))) p
    ∙ sym (ap (acts_of names sites) (is ∙ sym (s.rolls-Assign target kind value)) ∙ fold-roll-Stmt Acts ArmActs (stmt_step names sites) arm_step (o.Assign target kind value))

-- ---- typed statements

-- a branch on a value
abbrev pub branch_in : Value → ActsIn → ActsIn → ActsIn
branch_in value one other names = Branch (λ v. if value names v == 0 then other names else one names) End

pub branch_is : (names : List Entry) (t one other : TypedStmt) (x : Typed) (c : Sense) (a b : Acts) →
    acts_in t ≡ branch_in (typed_value x) (acts_in one) (acts_in other) → typed_value x names ≡ own c → acts_in one names ≡ a → acts_in other names ≡ b →
    acts_in t names ≡ if_acts c a b
branch_is names t one other x c a b is p q r =
    ap (λ (f : ActsIn). f names) is ∙ (λ i. Branch (λ v. if p i v == 0 then r i else q i) End)

pub case_is_source : (names : List Entry) (sites : List ℕ) (kind : CaseKind) (arms : List Arm) (opened : List OpenArm) (subject : Open) (s : Sense) →
    sense_in subject names ≡ s → map (open_arm names) opened ≡ map (source_arm names sites kind) arms →
    case_of (sense_in subject names) (map (open_arm names) opened) ≡ case_of s (map (source_arm names sites kind) arms)
case_is_source names sites kind arms opened subject s p q = λ i. case_of (p i) (q i)

-- the writes of a value
abbrev pub assign_in : AssignKind → TypedTarget → Value → ActsIn
assign_in kind target value names = assign_acts kind (λ v. writes_in (target_in target names) (value names v) v)

-- the writes of an expression at a width
abbrev writes_at : ℕ → TargetSense → Sense → View → List Write
writes_at width target x v = target.writes v (x.at width x.signed v % 2 ^ target.width)

pub assign_is : (names : List Entry) (t : TypedStmt) (target : TypedTarget) (kind : AssignKind) (typed : Typed) (value : Open) (sense : TargetSense) (x : Sense) (width measure : ℕ) →
    acts_in t ≡ assign_in kind target (typed_value typed) → typed_value typed ≡ body_value value.body width value.signed → target_in target names ≡ sense →
    sense_in value names ≡ x → width ≡ max measure value.width → measure ≡ sense.width → acts_in t names ≡ assign_acts kind (writes_of sense x)
assign_is names t target kind typed value sense x width measure is p q r wide measured =
    ap (λ (f : ActsIn). f names) is ∙ ap (λ (f : Value). assign_in kind target f names) p
    ∙ ap (λ (s : TargetSense). assign_acts kind (writes_at width s (sense_in value names))) q
    ∙ ap (λ (w : ℕ). assign_acts kind (writes_at w sense (sense_in value names))) (wide ∙ ap (λ (w : ℕ). max w value.width) measured)
    ∙ ap (λ (y : Sense). assign_acts kind (writes_at (max sense.width y.width) sense y)) r

-- ---- sound statements

pub sound_block : (names : List Entry) (x : Stmt) (body more : List Stmt) → x ≡ s.Block body → more ≡ body → is_sound_stmt names x ≡ true →
    list_all (is_sound_stmt names) more ≡ true
sound_block names x body more is p h =
    ap (list_all (is_sound_stmt names)) p ∙ sym (list_all-map (λ (b : Bool). b) (is_sound_stmt names) body)
    ∙ sym (ap (is_sound_stmt names) (is ∙ sym (s.rolls-Block body)) ∙ fold-roll-Stmt Bool Bool (sound_stmt_step names) (sound_arm_step names) (o.Block body)) ∙ h

if_sound : (names : List Entry) (x a : Stmt) (c : Expr) → x ≡ s.If c a → is_sound_stmt names x ≡ true → (is_sound names c && is_sound_stmt names a) ≡ true
if_sound names x a c is h =
    sym (ap (is_sound_stmt names) (is ∙ sym (s.rolls-If c a)) ∙ fold-roll-Stmt Bool Bool (sound_stmt_step names) (sound_arm_step names) (o.If c a)) ∙ h

pub sound_if : (names : List Entry) (x a : Stmt) (c : Expr) → x ≡ s.If c a → is_sound_stmt names x ≡ true → is_sound names c ≡ true
sound_if names x a c is h = first_of (is_sound names c) (is_sound_stmt names a) (if_sound names x a c is h)

pub sound_then : (names : List Entry) (x a b : Stmt) (c : Expr) → x ≡ s.If c a → b ≡ a → is_sound_stmt names x ≡ true → is_sound_stmt names b ≡ true
sound_then names x a b c is p h = ap (is_sound_stmt names) p ∙ second_of (is_sound names c) (is_sound_stmt names a) (if_sound names x a c is h)

if_else_sound : (names : List Entry) (x a b : Stmt) (c : Expr) → x ≡ s.IfElse c a b → is_sound_stmt names x ≡ true →
    (is_sound names c && (is_sound_stmt names a && is_sound_stmt names b)) ≡ true
if_else_sound names x a b c is h =
    sym (ap (is_sound_stmt names) (is ∙ sym (s.rolls-IfElse c a b)) ∙ fold-roll-Stmt Bool Bool (sound_stmt_step names) (sound_arm_step names) (o.IfElse c a b)) ∙ h

pub sound_condition : (names : List Entry) (x a b : Stmt) (c : Expr) → x ≡ s.IfElse c a b → is_sound_stmt names x ≡ true → is_sound names c ≡ true
sound_condition names x a b c is h = first_of (is_sound names c) (is_sound_stmt names a && is_sound_stmt names b) (if_else_sound names x a b c is h)

pub sound_one : (names : List Entry) (x a a' b : Stmt) (c : Expr) → x ≡ s.IfElse c a b → a' ≡ a → is_sound_stmt names x ≡ true → is_sound_stmt names a' ≡ true
sound_one names x a a' b c is p h =
    ap (is_sound_stmt names) p
    ∙ first_of (is_sound_stmt names a) (is_sound_stmt names b)
    (second_of (is_sound names c) (is_sound_stmt names a && is_sound_stmt names b) (if_else_sound names x a b c is h))

pub sound_other : (names : List Entry) (x a b b' : Stmt) (c : Expr) → x ≡ s.IfElse c a b → b' ≡ b → is_sound_stmt names x ≡ true → is_sound_stmt names b' ≡ true
sound_other names x a b b' c is p h =
    ap (is_sound_stmt names) p
    ∙ second_of (is_sound_stmt names a) (is_sound_stmt names b)
    (second_of (is_sound names c) (is_sound_stmt names a && is_sound_stmt names b) (if_else_sound names x a b c is h))

abbrev arm_sound : List Entry → Arm → Bool
arm_sound names = fold-Arm Bool Bool (sound_stmt_step names) (sound_arm_step names)

arms_sound : (names : List Entry) (arms : List Arm) → list_all (λ arm. arm) (map (arm_sound names) arms) ≡ list_all (is_sound_arm names) arms
arms_sound names [] = refl
arms_sound names (a ∷ arms) =
    λ i. fold-roll-Arm Bool Bool (sound_stmt_step names) (sound_arm_step names) (record { label = a.label; body = a.body }) i && arms_sound names arms i

case_sound : (names : List Entry) (x : Stmt) (kind : CaseKind) (subject : Expr) (arms : List Arm) → x ≡ s.Case kind subject arms → is_sound_stmt names x ≡ true →
    (is_sound names subject && list_all (is_sound_arm names) arms) ≡ true
case_sound names x kind subject arms is h =
    sym
    (ap (is_sound_stmt names) (is ∙ sym (s.rolls-Case kind subject arms)) ∙ fold-roll-Stmt Bool Bool (sound_stmt_step names) (sound_arm_step names) (o.Case kind subject arms)
    ∙ ap (λ (b : Bool). is_sound names subject && b) (arms_sound names arms))
    ∙ h

pub sound_subject : (names : List Entry) (x : Stmt) (kind : CaseKind) (subject : Expr) (arms : List Arm) → x ≡ s.Case kind subject arms → is_sound_stmt names x ≡ true →
    is_sound names subject ≡ true
sound_subject names x kind subject arms is h = first_of (is_sound names subject) (list_all (is_sound_arm names) arms) (case_sound names x kind subject arms is h)

pub sound_arms : (names : List Entry) (x : Stmt) (kind : CaseKind) (subject : Expr) (arms more : List Arm) → x ≡ s.Case kind subject arms → more ≡ arms → is_sound_stmt names x ≡ true →
    list_all (is_sound_arm names) more ≡ true
sound_arms names x kind subject arms more is p h =
    ap (list_all (is_sound_arm names)) p ∙ second_of (is_sound names subject) (list_all (is_sound_arm names) arms) (case_sound names x kind subject arms is h)

assign_sound : (names : List Entry) (x : Stmt) (target : Target) (kind : AssignKind) (value : Expr) → x ≡ s.Assign target kind value → is_sound_stmt names x ≡ true →
    (is_sound_target names target && is_sound names value) ≡ true
assign_sound names x target kind value is h =
    sym (ap (is_sound_stmt names) (is ∙ sym (s.rolls-Assign target kind value)) ∙ fold-roll-Stmt Bool Bool (sound_stmt_step names) (sound_arm_step names) (o.Assign target kind value)) ∙ h

pub sound_target : (names : List Entry) (x : Stmt) (target other : Target) (kind : AssignKind) (value : Expr) → x ≡ s.Assign target kind value → other ≡ target →
    is_sound_stmt names x ≡ true → is_sound_target names other ≡ true
sound_target names x target other kind value is p h =
    ap (is_sound_target names) p ∙ first_of (is_sound_target names target) (is_sound names value) (assign_sound names x target kind value is h)

pub sound_value : (names : List Entry) (x : Stmt) (target : Target) (kind : AssignKind) (value : Expr) → x ≡ s.Assign target kind value → is_sound_stmt names x ≡ true →
    is_sound names value ≡ true
sound_value names x target kind value is h = second_of (is_sound_target names target) (is_sound names value) (assign_sound names x target kind value is h)

pub sound_label : (names : List Entry) (a : Arm) → is_sound_arm names a ≡ true → all_sound names (label_items a.label) ≡ true
sound_label names a h = first_of (all_sound names (label_items a.label)) (is_sound_stmt names a.body) h

pub sound_body : (names : List Entry) (a : Arm) → is_sound_arm names a ≡ true → is_sound_stmt names a.body ≡ true
sound_body names a h = second_of (all_sound names (label_items a.label)) (is_sound_stmt names a.body) h
