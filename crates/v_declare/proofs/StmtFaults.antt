-- The faults of each kind of target and statement.
use Rattle.std.proofs.Common.{◌≡◌, ℕ, List, [], ◌∷◌, ◌++◌, map, flat_map, refl, sym, ap, ◌∙◌}
use Rattle.std.proofs.lemmas.List.Concat.{flat_map-cons}
use Rattle.std.proofs.lemmas.List.Folds.{flat_map-map}
use Rattle.v_syntax.specs.declared.token.Ident.{Ident}
use Rattle.v_syntax.specs.declared.expr.Expr.{Expr}
use Rattle.v_syntax.specs.declared.expr.Range.{Range}
use Rattle.v_syntax.specs.declared.stmt.Target.{Target}
use Rattle.v_syntax.specs.declared.stmt.Target.TheVariants as t
use Rattle.v_syntax.specs.declared.stmt.Target.TheOpen as q
use Rattle.v_syntax.specs.declared.stmt.Target.TheFolds.{fold-roll-Target}
use Rattle.v_syntax.specs.declared.stmt.Label.{Label}
use Rattle.v_syntax.specs.declared.stmt.Label.TheVariants as l
use Rattle.v_syntax.specs.declared.stmt.CaseKind.{CaseKind}
use Rattle.v_syntax.specs.declared.stmt.AssignKind.{AssignKind}
use Rattle.v_syntax.specs.declared.stmt.Arm.{Arm}
use Rattle.v_syntax.specs.declared.stmt.Stmt.{Stmt}
use Rattle.v_syntax.specs.declared.stmt.Stmt.TheVariants as s
use Rattle.v_syntax.specs.declared.stmt.Stmt.TheOpen as o
use Rattle.v_syntax.specs.declared.stmt.Stmt.TheFolds.{fold-Arm, fold-roll-Stmt, fold-roll-Arm}
use Rattle.v_meaning.specs.declared.names.Entry.{Entry}
use Rattle.v_meaning.specs.Statements.{label_items}
use Rattle.v_meaning.specs.Declarations.{joined_lists}
use Rattle.v_meaning.specs.Proper.{is_proper}
use Rattle.v_meaning.specs.ConstantRules.{faulty_at, expr_faults, target_fault_step, target_faults, stmt_fault_step, stmt_faults}
use Rattle.v_declare.specs.Faults.{arm_faults}

-- ---- targets

pub when_whole : (names : List Entry) (x : Target) (n : Ident) → x ≡ t.Name n → target_faults names x ≡ []
when_whole names x n is = ap (target_faults names) (is ∙ sym (t.rolls-Name n)) ∙ fold-roll-Target (List ℕ) (target_fault_step names) (q.Name n)

pub when_selected : (names : List Entry) (x : Target) (n : Ident) (bracket : ℕ) (i : Expr) → x ≡ t.Select n bracket i → target_faults names x ≡ expr_faults names i
when_selected names x n bracket i is =
    ap (target_faults names) (is ∙ sym (t.rolls-Select n bracket i)) ∙ fold-roll-Target (List ℕ) (target_fault_step names) (q.Select n bracket i)

pub when_bounded : (names : List Entry) (x : Target) (n : Ident) (r : Range) → x ≡ t.Part n r →
    target_faults names x ≡ faulty_at (is_proper names r.msb.expr) r.msb.at ++ faulty_at (is_proper names r.lsb.expr) r.lsb.at
when_bounded names x n r is = ap (target_faults names) (is ∙ sym (t.rolls-Part n r)) ∙ fold-roll-Target (List ℕ) (target_fault_step names) (q.Part n r)

joined_map : {A B : Type 0} (f : A → List B) (xs : List A) → joined_lists (map f xs) ≡ flat_map f xs
joined_map {B = B} f xs = flat_map-map (λ (y : List B). y) f xs

pub when_joined : (names : List Entry) (x : Target) (brace : ℕ) (parts more : List Target) → x ≡ t.Concat brace parts → more ≡ parts →
    target_faults names x ≡ flat_map (target_faults names) more
when_joined names x brace parts more is p =
    ap (target_faults names) (is ∙ sym (t.rolls-Concat brace parts)) ∙ fold-roll-Target (List ℕ) (target_fault_step names) (q.Concat brace parts)
    ∙ joined_map (target_faults names) parts ∙ ap (λ (l : List Target). flat_map (target_faults names) l) (sym p)

-- ---- labels

pub when_items : (names : List Entry) (label : Label) (xs ys : List Expr) → label ≡ l.Items xs → ys ≡ xs → flat_map (expr_faults names) (label_items label) ≡ flat_map (expr_faults names) ys
when_items names label xs ys is p = ap (λ (l : Label). flat_map (expr_faults names) (label_items l)) is ∙ ap (λ (zs : List Expr). flat_map (expr_faults names) zs) (sym p)

pub when_default : (names : List Entry) (label : Label) (at : ℕ) → label ≡ l.Default at → flat_map (expr_faults names) (label_items label) ≡ []
when_default names label at is = ap (λ (l : Label). flat_map (expr_faults names) (label_items l)) is

-- ---- statements

pub when_null : (names : List Entry) (x : Stmt) → x ≡ s.Null → stmt_faults names x ≡ []
when_null names x is = ap (stmt_faults names) (is ∙ sym s.rolls-Null) ∙ fold-roll-Stmt (List ℕ) (List ℕ) (stmt_fault_step names) (λ arm. flat_map (expr_faults names) (label_items arm.label) ++ arm.body) o.Null

pub when_block : (names : List Entry) (x : Stmt) (body more : List Stmt) → x ≡ s.Block body → more ≡ body → stmt_faults names x ≡ flat_map (stmt_faults names) more
when_block names x body more is p =
    ap (stmt_faults names) (is ∙ sym (s.rolls-Block body)) ∙ fold-roll-Stmt (List ℕ) (List ℕ) (stmt_fault_step names) (λ arm. flat_map (expr_faults names) (label_items arm.label) ++ arm.body) (o.Block body)
    ∙ joined_map (stmt_faults names) body ∙ ap (λ (l : List Stmt). flat_map (stmt_faults names) l) (sym p)

pub when_if : (names : List Entry) (x a b : Stmt) (c : Expr) → x ≡ s.If c a → b ≡ a → stmt_faults names x ≡ expr_faults names c ++ stmt_faults names b
when_if names x a b c is p =
    rw p (ap (stmt_faults names) (is ∙ sym (s.rolls-If c a)) ∙ fold-roll-Stmt (List ℕ) (List ℕ) (stmt_fault_step names) (λ arm. flat_map (expr_faults names) (label_items arm.label) ++ arm.body) (o.If c a))

pub when_if_else : (names : List Entry) (x a b a' b' : Stmt) (c : Expr) → x ≡ s.IfElse c a b → a' ≡ a → b' ≡ b →
    stmt_faults names x ≡ expr_faults names c ++ stmt_faults names a' ++ stmt_faults names b'
when_if_else names x a b a' b' c is p r =
    rw (p, r) (ap (stmt_faults names) (is ∙ sym (s.rolls-IfElse c a b)) ∙ fold-roll-Stmt (List ℕ) (List ℕ) (stmt_fault_step names) (λ arm. flat_map (expr_faults names) (label_items arm.label) ++ arm.body) (o.IfElse c a b))

arms_map : (names : List Entry) (arms : List Arm) → joined_lists (map (fold-Arm (List ℕ) (List ℕ) (stmt_fault_step names) (λ arm. flat_map (expr_faults names) (label_items arm.label) ++ arm.body)) arms) ≡ flat_map (arm_faults names) arms
arms_map names [] = refl
arms_map names (a ∷ arms) =
    flat_map-cons (λ (l : List ℕ). l) (fold-Arm (List ℕ) (List ℕ) (stmt_fault_step names) (λ arm. flat_map (expr_faults names) (label_items arm.label) ++ arm.body) a) (map (fold-Arm (List ℕ) (List ℕ) (stmt_fault_step names) (λ arm. flat_map (expr_faults names) (label_items arm.label) ++ arm.body)) arms)
    ∙ ap (λ (l : List ℕ). l ++ joined_lists (map (fold-Arm (List ℕ) (List ℕ) (stmt_fault_step names) (λ arm. flat_map (expr_faults names) (label_items arm.label) ++ arm.body)) arms))
    (fold-roll-Arm (List ℕ) (List ℕ) (stmt_fault_step names) (λ arm. flat_map (expr_faults names) (label_items arm.label) ++ arm.body) (record { label = a.label; body = a.body }))
    ∙ ap (λ (l : List ℕ). arm_faults names a ++ l) (arms_map names arms)
    ∙ sym (flat_map-cons (arm_faults names) a arms)

pub when_case : (names : List Entry) (x : Stmt) (kind : CaseKind) (subject : Expr) (arms more : List Arm) → x ≡ s.Case kind subject arms → more ≡ arms →
    stmt_faults names x ≡ expr_faults names subject ++ flat_map (arm_faults names) more
when_case names x kind subject arms more is p =
    rw p (ap (stmt_faults names) (is ∙ sym (s.rolls-Case kind subject arms)) ∙ fold-roll-Stmt (List ℕ) (List ℕ) (stmt_fault_step names) (λ arm. flat_map (expr_faults names) (label_items arm.label) ++ arm.body) (o.Case kind subject arms)
    ∙ ap (λ (l : List ℕ). expr_faults names subject ++ l) (arms_map names arms))

pub when_assign : (names : List Entry) (x : Stmt) (target other : Target) (kind : AssignKind) (value : Expr) → x ≡ s.Assign target kind value → other ≡ target →
    stmt_faults names x ≡ target_faults names other ++ expr_faults names value
when_assign names x target other kind value is p =
    rw p (ap (stmt_faults names) (is ∙ sym (s.rolls-Assign target kind value)) ∙ fold-roll-Stmt (List ℕ) (List ℕ) (stmt_fault_step names) (λ arm. flat_map (expr_faults names) (label_items arm.label) ++ arm.body) (o.Assign target kind value))
