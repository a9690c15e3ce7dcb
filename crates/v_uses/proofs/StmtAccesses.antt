-- The accesses of each kind of target and statement.
use Rattle.std.proofs.Common.{◌≡◌, ℕ, List, [], ◌∷◌, ◌++◌, map, flat_map, append_assoc, Bool, true, false, refl, ap, sym, ◌∙◌}
use Rattle.std.specs.Prelude.{◌||◌}
use Rattle.std.specs.List.{list_any}
use Rattle.std.proofs.lemmas.List.{append-nil}
use Rattle.std.proofs.lemmas.List.Concat.{flat_map-cons}
use Rattle.std.proofs.lemmas.List.Folds.{flat_map-map}
use Rattle.std.proofs.lemmas.Grind.{flat_map-append}
use Rattle.v_syntax.specs.declared.token.Ident.{Ident}
use Rattle.v_syntax.specs.declared.expr.Expr.{Expr}
use Rattle.v_syntax.specs.declared.expr.Range.{Range}
use Rattle.v_syntax.specs.declared.stmt.Target.{Target}
use Rattle.v_syntax.specs.declared.stmt.Target.TheVariants as t
use Rattle.v_syntax.specs.declared.stmt.Target.TheOpen as q
use Rattle.v_syntax.specs.declared.stmt.Target.TheFolds.{fold-roll-Target}
use Rattle.v_syntax.specs.declared.stmt.AssignKind.{AssignKind}
use Rattle.v_syntax.specs.declared.stmt.CaseKind.{CaseKind}
use Rattle.v_syntax.specs.declared.stmt.Label.{Label}
use Rattle.v_syntax.specs.declared.stmt.Label.TheVariants as l
use Rattle.v_syntax.specs.declared.stmt.Arm.{Arm}
use Rattle.v_syntax.specs.declared.stmt.Stmt.{Stmt}
use Rattle.v_syntax.specs.declared.stmt.Stmt.TheVariants as s
use Rattle.v_syntax.specs.declared.stmt.Stmt.TheOpen as o
use Rattle.v_syntax.specs.declared.stmt.Stmt.TheFolds.{fold-Arm, fold-roll-Stmt, fold-roll-Arm}
use Rattle.v_meaning.specs.declared.names.Entry.{Entry}
use Rattle.v_meaning.specs.Names.{entry_of}
use Rattle.v_meaning.specs.Marks.{is_default}
use Rattle.v_meaning.specs.Statements.{comparison_of, label_items, all_items}
use Rattle.v_meaning.specs.Uses.{Access, Write, TargetUse, StmtUse, ArmUse, whole_bits, bits_at, fixed_bit, part_bits, reads_of, target_use_step, target_use, sequence_use, arm_labels, is_full, no_item, case_branches, use_step, use_of}
use Rattle.v_uses.specs.Adding.{Context, index_reads, target_writes, accesses_of, item_reads, body_accesses}

-- ---- targets

name_use : (x : Target) (n : Ident) → x ≡ t.Name n → (c : Context) → target_use c.0 c.1 x ≡ target_use_step c.0 c.1 (q.Name n)
name_use x n is c = ap (target_use c.0 c.1) (is ∙ sym (t.rolls-Name n)) ∙ fold-roll-Target TargetUse (target_use_step c.0 c.1) (q.Name n)

select_use : (x : Target) (n : Ident) (bracket : ℕ) (i : Expr) → x ≡ t.Select n bracket i → (c : Context) → target_use c.0 c.1 x ≡ target_use_step c.0 c.1 (q.Select n bracket i)
select_use x n bracket i is c = ap (target_use c.0 c.1) (is ∙ sym (t.rolls-Select n bracket i)) ∙ fold-roll-Target TargetUse (target_use_step c.0 c.1) (q.Select n bracket i)

part_use : (x : Target) (n : Ident) (r : Range) → x ≡ t.Part n r → (c : Context) → target_use c.0 c.1 x ≡ target_use_step c.0 c.1 (q.Part n r)
part_use x n r is c = ap (target_use c.0 c.1) (is ∙ sym (t.rolls-Part n r)) ∙ fold-roll-Target TargetUse (target_use_step c.0 c.1) (q.Part n r)

concat_use : (x : Target) (brace : ℕ) (parts : List Target) → x ≡ t.Concat brace parts → (c : Context) → target_use c.0 c.1 x ≡ target_use_step c.0 c.1 (q.Concat brace (map (target_use c.0 c.1) parts))
concat_use x brace parts is c = ap (target_use c.0 c.1) (is ∙ sym (t.rolls-Concat brace parts)) ∙ fold-roll-Target TargetUse (target_use_step c.0 c.1) (q.Concat brace parts)

pub index_of_name : (x : Target) (n : Ident) → x ≡ t.Name n → (c : Context) → index_reads c x ≡ []
index_of_name x n is c = ap (λ (u : TargetUse). u.reads) (name_use x n is c)

pub index_of_select : (x : Target) (n : Ident) (bracket : ℕ) (i : Expr) → x ≡ t.Select n bracket i → (c : Context) → index_reads c x ≡ reads_of c.0 i
index_of_select x n bracket i is c = ap (λ (u : TargetUse). u.reads) (select_use x n bracket i is c)

pub index_of_part : (x : Target) (n : Ident) (r : Range) → x ≡ t.Part n r → (c : Context) → index_reads c x ≡ []
index_of_part x n r is c = ap (λ (u : TargetUse). u.reads) (part_use x n r is c)

pub index_of_concat : (x : Target) (brace : ℕ) (parts more : List Target) → x ≡ t.Concat brace parts → more ≡ parts → (c : Context) → index_reads c x ≡ flat_map (index_reads c) more
index_of_concat x brace parts more is p c =
    rw p (ap (λ (u : TargetUse). u.reads) (concat_use x brace parts is c) ∙ flat_map-map (λ (u : TargetUse). u.reads) (target_use c.0 c.1) parts)

-- the bits that a name by itself, an index and bounds write
abbrev pub name_bits : Ident → List Entry → ℕ
name_bits n names = whole_bits (entry_of names n.name).kind (entry_of names n.name)

abbrev pub index_bits : Ident → Expr → List Entry → ℕ
index_bits n index names = bits_at 0 (fixed_bit names (entry_of names n.name) index)

abbrev pub bound_bits : Ident → Range → List Entry → ℕ
bound_bits n r names = part_bits names (entry_of names n.name) r.msb.expr r.lsb.expr

pub writes_of_name : (x : Target) (n : Ident) (kind : AssignKind) → x ≡ t.Name n → (names : List Entry) → target_writes (names, kind) x ≡ Write n kind (name_bits n names) ∷ []
writes_of_name x n kind is names = ap (λ (u : TargetUse). u.writes) (name_use x n is (names, kind))

pub writes_of_select : (x : Target) (n : Ident) (bracket : ℕ) (i : Expr) (kind : AssignKind) → x ≡ t.Select n bracket i →
    (names : List Entry) → target_writes (names, kind) x ≡ Write n kind (index_bits n i names) ∷ []
writes_of_select x n bracket i kind is names = ap (λ (u : TargetUse). u.writes) (select_use x n bracket i is (names, kind))

pub writes_of_part : (x : Target) (n : Ident) (r : Range) (kind : AssignKind) → x ≡ t.Part n r → (names : List Entry) → target_writes (names, kind) x ≡ Write n kind (bound_bits n r names) ∷ []
writes_of_part x n r kind is names = ap (λ (u : TargetUse). u.writes) (part_use x n r is (names, kind))

pub writes_of_concat : (x : Target) (brace : ℕ) (parts more : List Target) (kind : AssignKind) → x ≡ t.Concat brace parts → more ≡ parts →
    (names : List Entry) → target_writes (names, kind) x ≡ flat_map (target_writes (names, kind)) more
writes_of_concat x brace parts more kind is p names =
    rw p (ap (λ (u : TargetUse). u.writes) (concat_use x brace parts is (names, kind)) ∙ flat_map-map (λ (u : TargetUse). u.writes) (target_use names kind) parts)

-- ---- labels

pub items_read : (arm : Arm) (xs ys : List Expr) → arm.label ≡ l.Items xs → ys ≡ xs → (names : List Entry) → item_reads names arm ≡ flat_map (reads_of names) ys
items_read arm xs ys is p names = rw p (ap (λ (label : Label). flat_map (reads_of names) (label_items label)) is)

pub default_reads : (arm : Arm) (at : ℕ) → arm.label ≡ l.Default at → (names : List Entry) → item_reads names arm ≡ []
default_reads arm at is names = ap (λ (label : Label). flat_map (reads_of names) (label_items label)) is

-- ---- statements

pub when_null : (x : Stmt) → x ≡ s.Null → (names : List Entry) → accesses_of names x ≡ []
when_null x is names =
    ap (λ (u : StmtUse). u.all)
    (ap (use_of names) (is ∙ sym s.rolls-Null) ∙ fold-roll-Stmt StmtUse ArmUse (use_step names) (λ arm. record { label = arm.label; body = arm.body }) o.Null)

in_sequence : (xs : List StmtUse) → (sequence_use xs).all ≡ flat_map (λ (u : StmtUse). u.all) xs
in_sequence [] = refl
in_sequence (x ∷ xs) = ap (λ (r : List Access). x.all ++ r) (in_sequence xs) ∙ sym (flat_map-cons (λ (u : StmtUse). u.all) x xs)

pub when_block : (x : Stmt) (body more : List Stmt) → x ≡ s.Block body → more ≡ body → (names : List Entry) → accesses_of names x ≡ flat_map (accesses_of names) more
when_block x body more is p names =
    rw p (ap (λ (u : StmtUse). u.all)
    (ap (use_of names) (is ∙ sym (s.rolls-Block body)) ∙ fold-roll-Stmt StmtUse ArmUse (use_step names) (λ arm. record { label = arm.label; body = arm.body }) (o.Block body))
    ∙ in_sequence (map (use_of names) body) ∙ flat_map-map (λ (u : StmtUse). u.all) (use_of names) body)

pub when_if : (x a b : Stmt) (c : Expr) → x ≡ s.If c a → b ≡ a → (names : List Entry) → accesses_of names x ≡ reads_of names c ++ accesses_of names b
when_if x a b c is p names =
    rw p (ap (λ (u : StmtUse). u.all)
    (ap (use_of names) (is ∙ sym (s.rolls-If c a)) ∙ fold-roll-Stmt StmtUse ArmUse (use_step names) (λ arm. record { label = arm.label; body = arm.body }) (o.If c a))
    ∙ ap (λ (r : List Access). reads_of names c ++ r) (append-nil (accesses_of names a)))

pub when_if_else : (x a b a' b' : Stmt) (c : Expr) → x ≡ s.IfElse c a b → a' ≡ a → b' ≡ b →
    (names : List Entry) → accesses_of names x ≡ reads_of names c ++ accesses_of names a' ++ accesses_of names b'
when_if_else x a b a' b' c is p r names =
    rw (p, r) (ap (λ (u : StmtUse). u.all)
    (ap (use_of names) (is ∙ sym (s.rolls-IfElse c a b)) ∙ fold-roll-Stmt StmtUse ArmUse (use_step names) (λ arm. record { label = arm.label; body = arm.body }) (o.IfElse c a b))
    ∙ ap (λ (r : List Access). reads_of names c ++ (accesses_of names a ++ r)) (append-nil (accesses_of names b))
    ∙ sym (append_assoc (reads_of names c) (accesses_of names a) (accesses_of names b)))

abbrev arm_use : List Entry → Arm → ArmUse
arm_use names = fold-Arm StmtUse ArmUse (use_step names) (λ arm. record { label = arm.label; body = arm.body })

arm_is : (names : List Entry) (a : Arm) → arm_use names a ≡ record { label = a.label; body = use_of names a.body }
arm_is names a = fold-roll-Arm StmtUse ArmUse (use_step names) (λ arm. record { label = arm.label; body = arm.body }) (record { label = a.label; body = a.body })

all_labels : (names : List Entry) (arms : List Arm) → flat_map (reads_of names) (all_items (arm_labels (map (arm_use names) arms))) ≡ flat_map (item_reads names) arms
all_labels names [] = refl
all_labels names (a ∷ arms) =
    ap (λ (u : ArmUse). flat_map (reads_of names) (label_items u.label ++ all_items (arm_labels (map (arm_use names) arms)))) (arm_is names a)
    ∙ flat_map-append (reads_of names) (label_items a.label) (all_items (arm_labels (map (arm_use names) arms)))
    ∙ ap (λ (r : List Access). item_reads names a ++ r) (all_labels names arms) ∙ sym (flat_map-cons (item_reads names) a arms)

all_bodies : (names : List Entry) (arms : List Arm) (more : List StmtUse) →
    flat_map (λ (u : StmtUse). u.all) (map (λ (a : ArmUse). a.body) (map (arm_use names) arms) ++ more) ≡ flat_map (body_accesses names) arms ++ flat_map (λ (u : StmtUse). u.all) more
all_bodies names [] more = refl
all_bodies names (a ∷ arms) more =
    ap (λ (u : ArmUse). u.body.all ++ flat_map (λ (u : StmtUse). u.all) (map (λ (a : ArmUse). a.body) (map (arm_use names) arms) ++ more)) (arm_is names a)
    ∙ ap (λ (r : List Access). body_accesses names a ++ r) (all_bodies names arms more)
    ∙ sym (append_assoc (body_accesses names a) (flat_map (body_accesses names) arms) (flat_map (λ (u : StmtUse). u.all) more))
    ∙ ap (λ (r : List Access). r ++ flat_map (λ (u : StmtUse). u.all) more) (sym (flat_map-cons (body_accesses names) a arms))

-- no item is read or written where none is taken
no_item_all : (b : Bool) → flat_map (λ (u : StmtUse). u.all) (no_item b) ≡ []
no_item_all true = refl
no_item_all false = refl

pub when_case : (x : Stmt) (kind : CaseKind) (subject : Expr) (arms more : List Arm) → x ≡ s.Case kind subject arms → more ≡ arms →
    (names : List Entry) → accesses_of names x ≡ reads_of names subject ++ flat_map (item_reads names) more ++ flat_map (body_accesses names) more
when_case x kind subject arms more is p names =
    rw p (ap (λ (u : StmtUse). u.all)
    (ap (use_of names) (is ∙ sym (s.rolls-Case kind subject arms))
    ∙ fold-roll-Stmt StmtUse ArmUse (use_step names) (λ arm. record { label = arm.label; body = arm.body }) (o.Case kind subject arms))
    ∙ ap (λ (r : List Access). (reads_of names subject ++ r) ++ flat_map (λ (u : StmtUse). u.all) (case_branches names subject (map (arm_use names) arms))) (all_labels names arms)
    ∙ ap (λ (r : List Access). (reads_of names subject ++ flat_map (item_reads names) arms) ++ r)
    (all_bodies names arms (no_item (covered names subject arms))
    ∙ ap (λ (r : List Access). flat_map (body_accesses names) arms ++ r) (no_item_all (covered names subject arms)) ∙ append-nil (flat_map (body_accesses names) arms)))
  where
    covered : List Entry → Expr → List Arm → Bool
    covered names subject arms =
        list_any is_default (arm_labels (map (arm_use names) arms))
        || is_full names subject (comparison_of names [] subject (arm_labels (map (arm_use names) arms))) (arm_labels (map (arm_use names) arms))

pub when_assign : (x : Stmt) (target other : Target) (kind : AssignKind) (value : Expr) → x ≡ s.Assign target kind value → other ≡ target →
    (names : List Entry) → accesses_of names x ≡ reads_of names value ++ index_reads (names, kind) other ++ target_writes (names, kind) other
when_assign x target other kind value is p names =
    rw p (ap (λ (u : StmtUse). u.all)
    (ap (use_of names) (is ∙ sym (s.rolls-Assign target kind value))
    ∙ fold-roll-Stmt StmtUse ArmUse (use_step names) (λ arm. record { label = arm.label; body = arm.body }) (o.Assign target kind value)))
