-- The marks of each kind of target and statement.
use Rattle.std.proofs.Common.{◌≡◌, ◌<◌, ◌≤◌, length, drop, get_or, append_assoc, ◌+◌, ℕ, List, [], ◌∷◌, ◌++◌, map, flat_map, Bool, true, false, cond, Option, None, Bor, refl, sym, ap, ◌∙◌, Some}
use Rattle.std.specs.Prelude.{◌||◌}
use Rattle.std.proofs.lemmas.List.{append-nil, drop_all}
use Rattle.std.proofs.lemmas.List.Concat.{flat_map-cons}
use Rattle.v_syntax.specs.declared.token.Ident.{Ident}
use Rattle.v_syntax.specs.declared.expr.Expr.{Expr}
use Rattle.v_syntax.specs.declared.expr.Range.{Range}
use Rattle.v_syntax.specs.declared.stmt.Target.{Target}
use Rattle.v_syntax.specs.declared.stmt.Target.TheVariants as t
use Rattle.v_syntax.specs.declared.stmt.Target.TheOpen as q
use Rattle.v_syntax.specs.declared.stmt.Target.TheFolds.{para-roll-Target}
use Rattle.v_syntax.specs.declared.stmt.Label.{Label}
use Rattle.v_syntax.specs.declared.stmt.Label.TheVariants as l
use Rattle.v_syntax.specs.declared.stmt.CaseKind.{CaseKind}
use Rattle.v_syntax.specs.declared.stmt.CaseKind.TheVariants as k
use Rattle.v_syntax.specs.declared.expr.Number.{Number}
use Rattle.std.specs.Option.{option_copied}
use Rattle.v_meaning.specs.Expressions.{number_by_itself}
use Rattle.v_syntax.specs.declared.stmt.AssignKind.{AssignKind}
use Rattle.v_syntax.specs.declared.stmt.Arm.{Arm}
use Rattle.v_syntax.specs.declared.stmt.Stmt.{Stmt}
use Rattle.v_syntax.specs.declared.stmt.Stmt.TheVariants as s
use Rattle.v_syntax.specs.declared.stmt.Stmt.TheOpen as o
use Rattle.v_syntax.specs.declared.stmt.Stmt.TheFolds.{fold-Arm, fold-roll-Stmt, fold-roll-Arm}
use Rattle.v_meaning.specs.declared.names.Entry.{Entry}
use Rattle.v_meaning.specs.Declarations.{joined_lists}
use Rattle.v_meaning.specs.Proper.{proper_value}
use Rattle.v_meaning.specs.Marks.{Mark, Used, Bare, Indexed, PartOf, Digits, Joined, Again, ArmMarks, item_digits, item_marks, marks_of, range_marks, targets_marks, targets_bits, joined_targets_bits, target_mark_step, target_marks, label_marks, is_default, arms_marks, stmt_mark_step, stmt_marks}
use Rattle.v_scope.specs.declared.occurrence.Occurrence.{Occurrence}
use Rattle.v_scope.specs.Occurrences.{marks_in, Adds}
use Rattle.v_scope.proofs.Adding.{next_is}
use Rattle.v_scope.specs.Lists.{arms_behind}

-- ---- targets

pub when_whole : (x : Target) (n : Ident) → x ≡ t.Name n → (names : List Entry) → target_marks names x ≡ Used Bare n ∷ []
when_whole x n is names = ap (target_marks names) is ∙ ap (target_marks names) (sym (t.rolls-Name n)) ∙ para-roll-Target (List Mark) (target_mark_step names) (q.Name n)

pub when_selected : (x : Target) (n : Ident) (bracket : ℕ) (i : Expr) → x ≡ t.Select n bracket i → (names : List Entry) → target_marks names x ≡ (Used Indexed n ∷ []) ++ marks_of names i
when_selected x n bracket i is names =
    ap (target_marks names) is ∙ ap (target_marks names) (sym (t.rolls-Select n bracket i)) ∙ para-roll-Target (List Mark) (target_mark_step names) (q.Select n bracket i)

pub when_bounded : (x : Target) (n : Ident) (r : Range) → x ≡ t.Part n r →
    (names : List Entry) → target_marks names x ≡ (Used (PartOf (proper_value names r.msb.expr) (proper_value names r.lsb.expr)) n ∷ []) ++ range_marks names (Some r)
when_bounded x n r is names =
    ap (target_marks names) is ∙ ap (target_marks names) (sym (t.rolls-Part n r)) ∙ para-roll-Target (List Mark) (target_mark_step names) (q.Part n r)

targets_map : (names : List Entry) (parts : List Target) → targets_marks (map (λ (y : Target). (y, target_marks names y)) parts) ≡ flat_map (target_marks names) parts
targets_map names [] = refl
targets_map names (x ∷ xs) = ap (λ (r : List Mark). target_marks names x ++ r) (targets_map names xs) ∙ sym (flat_map-cons (target_marks names) x xs)

targets_themselves : (names : List Entry) (parts : List Target) → map (λ (x : Target × List Mark). x.0) (map (λ (y : Target). (y, target_marks names y)) parts) ≡ parts
targets_themselves names [] = refl
targets_themselves names (x ∷ xs) = ap (λ (r : List Target). x ∷ r) (targets_themselves names xs)

pub when_joined : (x : Target) (brace : ℕ) (parts more : List Target) → x ≡ t.Concat brace parts → more ≡ parts →
    (names : List Entry) → target_marks names x ≡ (Joined (joined_targets_bits names more) brace ∷ []) ++ flat_map (target_marks names) more
when_joined x brace parts more is p names =
    rw p (ap (target_marks names) is ∙ ap (target_marks names) (sym (t.rolls-Concat brace parts)) ∙ para-roll-Target (List Mark) (target_mark_step names) (q.Concat brace parts)
    ∙ ap (λ (r : List Mark). Joined (targets_bits names (map (λ (y : Target). (y, target_marks names y)) parts)) brace ∷ r) (targets_map names parts)
    ∙ ap (λ (ys : List Target). Joined (joined_targets_bits names ys) brace ∷ flat_map (target_marks names) parts) (targets_themselves names parts))

-- ---- the labels of arms

pub again_is : (met : Bool) (at : ℕ) → met ≡ true → (names : List Entry) → cond met (Again at ∷ []) [] ≡ Again at ∷ []
again_is met at is names = ap (λ (b : Bool). cond b (Again at ∷ []) []) is

pub plain_item : (x : Expr) (kind : CaseKind) → kind ≡ k.Case → (names : List Entry) → item_marks names kind x ≡ marks_of names x
plain_item x kind is names = ap (λ (c : CaseKind). item_marks names c x) is

pub number_item : (x : Expr) (kind : CaseKind) (found : Option (Bor Number)) (n : Bor Number) → kind ≡ k.Casez → option_copied found ≡ number_by_itself x → found ≡ Some n →
    (names : List Entry) → item_marks names kind x ≡ Digits true n.now ∷ []
number_item x kind found n is p q names = ap (λ (c : CaseKind). item_marks names c x) is ∙ ap (λ (o : Option Number). item_digits o (marks_of names x)) (sym p ∙ ap option_copied q)

pub other_item : (x : Expr) (kind : CaseKind) (found : Option (Bor Number)) → kind ≡ k.Casez → option_copied found ≡ number_by_itself x → found ≡ None →
    (names : List Entry) → item_marks names kind x ≡ marks_of names x
other_item x kind found is p q names = ap (λ (c : CaseKind). item_marks names c x) is ∙ ap (λ (o : Option Number). item_digits o (marks_of names x)) (sym p ∙ ap option_copied q)

pub when_items : (label : Label) (xs ys : List Expr) (kind : CaseKind) (met : Bool) → label ≡ l.Items xs → ys ≡ xs → (names : List Entry) → label_marks names kind met label ≡ flat_map (item_marks names kind) ys
when_items label xs ys kind met is p names = ap (label_marks names kind met) is ∙ ap (λ (zs : List Expr). flat_map (item_marks names kind) zs) (sym p)

pub when_default : (label : Label) (at : ℕ) (kind : CaseKind) (met : Bool) → label ≡ l.Default at → (names : List Entry) → label_marks names kind met label ≡ cond met (Again at ∷ []) []
when_default label at kind met is names = ap (label_marks names kind met) is

-- ---- statements

pub when_null : (x : Stmt) → x ≡ s.Null → (names : List Entry) → stmt_marks names x ≡ []
when_null x is names =
    ap (stmt_marks names) is ∙ ap (stmt_marks names) (sym s.rolls-Null) ∙ fold-roll-Stmt (List Mark) ArmMarks (stmt_mark_step names) (λ arm. record { label = arm.label; body = arm.body }) o.Null

joined_map : {A : Type 0} (f : A → List Mark) (xs : List A) → joined_lists (map f xs) ≡ flat_map f xs
joined_map f [] = refl
joined_map f (x ∷ xs) =
    flat_map-cons (λ (y : List Mark). y) (f x) (map f xs) ∙ ap (λ (r : List Mark). f x ++ r) (joined_map f xs) ∙ sym (flat_map-cons f x xs)

pub when_block : (x : Stmt) (body more : List Stmt) → x ≡ s.Block body → more ≡ body → (names : List Entry) → stmt_marks names x ≡ flat_map (stmt_marks names) more
when_block x body more is p names =
    rw p (ap (stmt_marks names) is ∙ ap (stmt_marks names) (sym (s.rolls-Block body))
    ∙ fold-roll-Stmt (List Mark) ArmMarks (stmt_mark_step names) (λ arm. record { label = arm.label; body = arm.body }) (o.Block body)
    ∙ joined_map (stmt_marks names) body)

pub when_if : (x a b : Stmt) (c : Expr) → x ≡ s.If c a → b ≡ a → (names : List Entry) → stmt_marks names x ≡ marks_of names c ++ stmt_marks names b
when_if x a b c is p names =
    rw p (ap (stmt_marks names) is ∙ ap (stmt_marks names) (sym (s.rolls-If c a))
    ∙ fold-roll-Stmt (List Mark) ArmMarks (stmt_mark_step names) (λ arm. record { label = arm.label; body = arm.body }) (o.If c a))

pub when_if_else : (x a b a' b' : Stmt) (c : Expr) → x ≡ s.IfElse c a b → a' ≡ a → b' ≡ b →
    (names : List Entry) → stmt_marks names x ≡ marks_of names c ++ stmt_marks names a' ++ stmt_marks names b'
when_if_else x a b a' b' c is p r names =
    rw (p, r) (ap (stmt_marks names) is ∙ ap (stmt_marks names) (sym (s.rolls-IfElse c a b))
    ∙ fold-roll-Stmt (List Mark) ArmMarks (stmt_mark_step names) (λ arm. record { label = arm.label; body = arm.body }) (o.IfElse c a b))

abbrev arm_marks : List Entry → Arm → ArmMarks
arm_marks names = fold-Arm (List Mark) ArmMarks (stmt_mark_step names) (λ arm. record { label = arm.label; body = arm.body })

arm_is : (names : List Entry) (a : Arm) → arm_marks names a ≡ record { label = a.label; body = stmt_marks names a.body }
arm_is names a = fold-roll-Arm (List Mark) ArmMarks (stmt_mark_step names) (λ arm. record { label = arm.label; body = arm.body }) (record { label = a.label; body = a.body })

arms_map : (names : List Entry) (kind : CaseKind) (met : Bool) (arms : List Arm) → arms_marks names kind met (map (arm_marks names) arms) ≡ arms_behind names kind met arms
arms_map names kind met [] = refl
arms_map names kind met (a ∷ arms) =
    ap (λ (m : ArmMarks). label_marks names kind met m.label ++ m.body ++ arms_marks names kind (met || is_default m.label) (map (arm_marks names) arms)) (arm_is names a)
    ∙ ap (λ (r : List Mark). label_marks names kind met a.label ++ stmt_marks names a.body ++ r) (arms_map names kind (met || is_default a.label) arms)

pub when_case : (x : Stmt) (kind : CaseKind) (subject : Expr) (arms more : List Arm) → x ≡ s.Case kind subject arms → more ≡ arms →
    (names : List Entry) → stmt_marks names x ≡ marks_of names subject ++ arms_behind names kind false more
when_case x kind subject arms more is p names =
    rw p (ap (stmt_marks names) is ∙ ap (stmt_marks names) (sym (s.rolls-Case kind subject arms))
    ∙ fold-roll-Stmt (List Mark) ArmMarks (stmt_mark_step names) (λ arm. record { label = arm.label; body = arm.body }) (o.Case kind subject arms)
    ∙ ap (λ (r : List Mark). marks_of names subject ++ r) (arms_map names kind false arms))

pub when_assign : (x : Stmt) (target other : Target) (kind : AssignKind) (value : Expr) → x ≡ s.Assign target kind value → other ≡ target →
    (names : List Entry) → stmt_marks names x ≡ target_marks names other ++ marks_of names value
when_assign x target other kind value is p names =
    rw p (ap (stmt_marks names) is ∙ ap (stmt_marks names) (sym (s.rolls-Assign target kind value))
    ∙ fold-roll-Stmt (List Mark) ArmMarks (stmt_mark_step names) (λ arm. record { label = arm.label; body = arm.body }) (o.Assign target kind value))

-- ---- the arms of a case, one after another

-- What is listed and what the arms from this one on have is what was listed at first and what all arms have.
pub record EachArm (kind : CaseKind) (arms : List Arm) (i : ℕ) (met : Bool) (begun now : List Occurrence) : Type 0 where
  pub same : (names : List Entry) → marks_in names now ++ arms_behind names kind met (drop i arms) ≡ marks_in names begun ++ arms_behind names kind false arms

pub arm_next : (kind : CaseKind) (arms : List Arm) (i : ℕ) (a : Arm) (met more : Bool) (begun now after : List Occurrence) → i < length arms → a ≡ get_or arms i a →
    more ≡ (met || is_default a.label) → Adds now after (λ names. label_marks names kind met a.label ++ stmt_marks names a.body) → EachArm kind arms i met begun now → EachArm kind arms (i + 1) more begun after
arm_next kind arms i a met more begun now after h is m p e = record {
  same = λ names. ap (λ (b : Bool). marks_in names after ++ arms_behind names kind b (drop (i + 1) arms)) m
      ∙ ap (λ (l : List Mark). l ++ arms_behind names kind (met || is_default a.label) (drop (i + 1) arms)) (p.added names)
      ∙ append_assoc (marks_in names now) (label_marks names kind met a.label ++ stmt_marks names a.body) (arms_behind names kind (met || is_default a.label) (drop (i + 1) arms))
      ∙ ap (λ (ys : List Arm). marks_in names now ++ arms_behind names kind met ys) (sym (next_is arms i a h is))
      ∙ e.same names;
}

pub arms_end : (kind : CaseKind) (arms : List Arm) (i : ℕ) (met : Bool) (begun now : List Occurrence) → length arms ≤ i → EachArm kind arms i met begun now → Adds begun now (λ names. arms_behind names kind false arms)
arms_end kind arms i met begun now h e = record {
  added = λ names. sym (ap (λ (ys : List Arm). marks_in names now ++ arms_behind names kind met ys) (drop_all i arms h) ∙ append-nil (marks_in names now)) ∙ e.same names;
}
