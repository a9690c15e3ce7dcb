-- The sites of each kind of target and statement.
use Rattle.std.proofs.Common.{◌≡◌, ℕ, List, [], ◌∷◌, ◌++◌, map, flat_map, refl, ap, sym, ◌∙◌}
use Rattle.std.proofs.lemmas.List.Concat.{flat_map-cons}
use Rattle.std.proofs.lemmas.List.Folds.{flat_map-map}
use Rattle.v_syntax.specs.declared.token.Ident.{Ident}
use Rattle.v_syntax.specs.declared.expr.Expr.{Expr}
use Rattle.v_syntax.specs.declared.expr.Range.{Range}
use Rattle.v_syntax.specs.declared.stmt.Target.{Target}
use Rattle.v_syntax.specs.declared.stmt.Target.TheVariants as t
use Rattle.v_syntax.specs.declared.stmt.Target.TheOpen as q
use Rattle.v_syntax.specs.declared.stmt.Target.TheFolds.{fold-roll-Target}
use Rattle.v_syntax.specs.declared.stmt.AssignKind.{AssignKind}
use Rattle.v_syntax.specs.declared.stmt.CaseKind.{CaseKind}
use Rattle.v_syntax.specs.declared.stmt.Label.{Label}
use Rattle.v_syntax.specs.declared.stmt.Label.TheVariants as l
use Rattle.v_syntax.specs.declared.stmt.Arm.{Arm}
use Rattle.v_syntax.specs.declared.stmt.Stmt.{Stmt}
use Rattle.v_syntax.specs.declared.stmt.Stmt.TheVariants as s
use Rattle.v_syntax.specs.declared.stmt.Stmt.TheOpen as o
use Rattle.v_syntax.specs.declared.stmt.Stmt.TheFolds.{fold-Arm, fold-roll-Stmt, fold-roll-Arm}
use Rattle.v_meaning.specs.declared.names.Entry.{Entry}
use Rattle.v_meaning.specs.Declarations.{joined_lists}
use Rattle.v_meaning.specs.Sites.{Site, sites_of, target_site_step, target_sites, items_sites, stmt_site_step, arm_site_step, stmt_sites}
use Rattle.v_sites.specs.Adding.{arm_sites}

-- ---- targets

pub target_name : (names : List Entry) (x : Target) (n : Ident) → x ≡ t.Name n → target_sites names x ≡ []
target_name names x n is = ap (target_sites names) (is ∙ sym (t.rolls-Name n)) ∙ fold-roll-Target (List Site) (target_site_step names) (q.Name n)

pub target_select : (names : List Entry) (x : Target) (n : Ident) (bracket : ℕ) (index : Expr) → x ≡ t.Select n bracket index → target_sites names x ≡ sites_of names index
target_select names x n bracket index is =
    ap (target_sites names) (is ∙ sym (t.rolls-Select n bracket index)) ∙ fold-roll-Target (List Site) (target_site_step names) (q.Select n bracket index)

pub target_part : (names : List Entry) (x : Target) (n : Ident) (r : Range) → x ≡ t.Part n r → target_sites names x ≡ []
target_part names x n r is = ap (target_sites names) (is ∙ sym (t.rolls-Part n r)) ∙ fold-roll-Target (List Site) (target_site_step names) (q.Part n r)

pub target_concat : (names : List Entry) (x : Target) (brace : ℕ) (parts more : List Target) → x ≡ t.Concat brace parts → more ≡ parts → target_sites names x ≡ flat_map (target_sites names) more
target_concat names x brace parts more is same =
    rw same (ap (target_sites names) (is ∙ sym (t.rolls-Concat brace parts)) ∙ fold-roll-Target (List Site) (target_site_step names) (q.Concat brace parts)
    ∙ flat_map-map (λ (one : List Site). one) (target_sites names) parts)

-- ---- labels

pub when_items : (names : List Entry) (label : Label) (xs ys : List Expr) → label ≡ l.Items xs → ys ≡ xs → items_sites names label ≡ flat_map (sites_of names) ys
when_items names label xs ys is same = rw same (ap (items_sites names) is)

pub when_default : (names : List Entry) (label : Label) (at : ℕ) → label ≡ l.Default at → items_sites names label ≡ []
when_default names label at is = ap (items_sites names) is

-- ---- statements

pub when_null : (names : List Entry) (x : Stmt) → x ≡ s.Null → stmt_sites names x ≡ []
when_null names x is = ap (stmt_sites names) (is ∙ sym s.rolls-Null) ∙ fold-roll-Stmt (List Site) (List Site) (stmt_site_step names) (arm_site_step names) o.Null

pub when_block : (names : List Entry) (x : Stmt) (body more : List Stmt) → x ≡ s.Block body → more ≡ body → stmt_sites names x ≡ flat_map (stmt_sites names) more
when_block names x body more is same =
    rw same (ap (stmt_sites names) (is ∙ sym (s.rolls-Block body)) ∙ fold-roll-Stmt (List Site) (List Site) (stmt_site_step names) (arm_site_step names) (o.Block body)
    ∙ flat_map-map (λ (one : List Site). one) (stmt_sites names) body)

pub when_if : (names : List Entry) (x a b : Stmt) (c : Expr) → x ≡ s.If c a → b ≡ a → stmt_sites names x ≡ sites_of names c ++ stmt_sites names b
when_if names x a b c is same =
    rw same (ap (stmt_sites names) (is ∙ sym (s.rolls-If c a)) ∙ fold-roll-Stmt (List Site) (List Site) (stmt_site_step names) (arm_site_step names) (o.If c a))

pub when_if_else : (names : List Entry) (x a b a' b' : Stmt) (c : Expr) → x ≡ s.IfElse c a b → a' ≡ a → b' ≡ b →
    stmt_sites names x ≡ sites_of names c ++ stmt_sites names a' ++ stmt_sites names b'
when_if_else names x a b a' b' c is p r =
    rw (p, r) (ap (stmt_sites names) (is ∙ sym (s.rolls-IfElse c a b)) ∙ fold-roll-Stmt (List Site) (List Site) (stmt_site_step names) (arm_site_step names) (o.IfElse c a b))

abbrev folded_arm : List Entry → Arm → List Site
folded_arm names = fold-Arm (List Site) (List Site) (stmt_site_step names) (arm_site_step names)

arm_is : (names : List Entry) (a : Arm) → folded_arm names a ≡ arm_sites names a
arm_is names a = fold-roll-Arm (List Site) (List Site) (stmt_site_step names) (arm_site_step names) (record { label = a.label; body = a.body })

arms_map : (names : List Entry) (arms : List Arm) → joined_lists (map (folded_arm names) arms) ≡ flat_map (arm_sites names) arms
arms_map names [] = refl
arms_map names (a ∷ arms) =
    flat_map-cons (λ (one : List Site). one) (folded_arm names a) (map (folded_arm names) arms)
    ∙ ap (λ (r : List Site). r ++ joined_lists (map (folded_arm names) arms)) (arm_is names a)
    ∙ ap (λ (r : List Site). arm_sites names a ++ r) (arms_map names arms) ∙ sym (flat_map-cons (arm_sites names) a arms)

pub when_case : (names : List Entry) (x : Stmt) (kind : CaseKind) (subject : Expr) (arms more : List Arm) → x ≡ s.Case kind subject arms → more ≡ arms →
    stmt_sites names x ≡ sites_of names subject ++ flat_map (arm_sites names) more
when_case names x kind subject arms more is same =
    rw same (ap (stmt_sites names) (is ∙ sym (s.rolls-Case kind subject arms))
    ∙ fold-roll-Stmt (List Site) (List Site) (stmt_site_step names) (arm_site_step names) (o.Case kind subject arms)
    ∙ ap (λ (r : List Site). sites_of names subject ++ r) (arms_map names arms))

pub when_assign : (names : List Entry) (x : Stmt) (target other : Target) (kind : AssignKind) (value : Expr) → x ≡ s.Assign target kind value → other ≡ target →
    stmt_sites names x ≡ target_sites names other ++ sites_of names value
when_assign names x target other kind value is same =
    rw same (ap (stmt_sites names) (is ∙ sym (s.rolls-Assign target kind value))
    ∙ fold-roll-Stmt (List Site) (List Site) (stmt_site_step names) (arm_site_step names) (o.Assign target kind value))
