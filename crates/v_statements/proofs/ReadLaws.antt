-- Where as many bits are read as are open in a target or statement, they are so in what it holds.
use Rattle.std.proofs.Common.{◌≡◌, ◌<◌, ap, sym, subst, ◌∙◌, ℕ, List, [], ◌∷◌, ◌++◌, flat_map, length, get_or}
use Rattle.std.specs.Prelude.{All, slice_index}
use Rattle.std.proofs.lemmas.List.Elements.{All-nil, All-cons, All-head, All-tail, All-get_or, All-weaker}
use Rattle.std.proofs.lemmas.List.Folds.{flat_map-map}
use Rattle.v_syntax.specs.declared.token.Ident.{Ident}
use Rattle.v_syntax.specs.declared.expr.Expr.{Expr}
use Rattle.v_syntax.specs.declared.stmt.Target.{Target}
use Rattle.v_syntax.specs.declared.stmt.Target.TheVariants as t
use Rattle.v_syntax.specs.declared.stmt.Target.TheOpen as p
use Rattle.v_syntax.specs.declared.stmt.Target.TheFolds.{fold-roll-Target}
use Rattle.v_syntax.specs.declared.stmt.AssignKind.{AssignKind}
use Rattle.v_syntax.specs.declared.stmt.CaseKind.{CaseKind}
use Rattle.v_syntax.specs.declared.stmt.Label.{Label}
use Rattle.v_syntax.specs.declared.stmt.Label.TheVariants as l
use Rattle.v_syntax.specs.declared.stmt.Arm.{Arm}
use Rattle.v_syntax.specs.declared.stmt.Stmt.{Stmt}
use Rattle.v_syntax.specs.declared.stmt.Stmt.TheVariants as s
use Rattle.v_syntax.specs.declared.stmt.Stmt.TheOpen as o
use Rattle.v_syntax.specs.declared.stmt.Stmt.TheFolds.{fold-Arm, fold-roll-Stmt, fold-roll-Arm}
use Rattle.v_meaning.specs.declared.names.Entry.{Entry}
use Rattle.v_meaning.specs.Expressions.{number_of_place}
use Rattle.v_meaning.specs.Sites.{Site}
use Rattle.v_places.specs.Openings.{openings_of, target_opening_step, target_openings, items_openings, stmt_opening_step, arm_opening_step, stmt_openings}
use Rattle.v_typing.specs.Sited.{AreRead, IsRead, AllRead}
use Rattle.v_statements.specs.Sited.{TargetRead, LabelRead, StmtRead, ArmRead}

-- ---- lists

pub all_front : {X : Type 0} (P : X → Type 0) (xs ys : List X) → All P (xs ++ ys) → All P xs
all_front P [] ys h = All-nil P
all_front P (x ∷ xs) ys h = All-cons P x xs (All-head P x (xs ++ ys) h) (all_front P xs ys (All-tail P x (xs ++ ys) h))

pub all_back : {X : Type 0} (P : X → Type 0) (xs ys : List X) → All P (xs ++ ys) → All P ys
all_back P [] ys h = h
all_back P (x ∷ xs) ys h = all_back P xs ys (All-tail P x (xs ++ ys) h)

pub all_each : {X Y : Type 0} (P : Y → Type 0) (f : X → List Y) (xs : List X) → All P (flat_map f xs) → All (λ (x : X). All P (f x)) xs
all_each {X} P f [] h = All-nil (λ (x : X). All P (f x))
all_each {X} P f (x ∷ xs) h =
    All-cons (λ (x : X). All P (f x)) x xs (all_front P (f x) (flat_map f xs) h) (all_each P f xs (all_back P (f x) (flat_map f xs) h))

pub this_one : {X : Type 0} (P : X → Type 0) (xs : List X) (i : ℕ) (x : X) → i < length xs → x ≡ get_or xs i x → All P xs → P x
this_one P xs i x within is h = subst P (sym is) (All-get_or P xs i x within h)

module _ (widths places : List ℕ) (names : List Entry) where
  abbrev reads : Site → Type 0
  reads s = slice_index widths (number_of_place places s.at) ≡ s.width

  -- ---- targets

  pub read_index : (x : Target) (n : Ident) (bracket : ℕ) (index : Expr) → x ≡ t.Select n bracket index → TargetRead widths places names x → IsRead widths places names index
  read_index x n bracket index is =
      subst (AreRead widths places)
      (ap (target_openings names) (is ∙ sym (t.rolls-Select n bracket index)) ∙ fold-roll-Target (List Site) (target_opening_step names) (p.Select n bracket index))

  pub read_parts : (x : Target) (brace : ℕ) (parts more : List Target) → x ≡ t.Concat brace parts → more ≡ parts → TargetRead widths places names x → All (TargetRead widths places names) more
  read_parts x brace parts more is q h =
      let opens : target_openings names x ≡ flat_map (target_openings names) parts =
      ap (target_openings names) (is ∙ sym (t.rolls-Concat brace parts)) ∙ fold-roll-Target (List Site) (target_opening_step names) (p.Concat brace parts)
      ∙ flat_map-map (λ (y : List Site). y) (target_openings names) parts in
      subst (All (TargetRead widths places names)) (sym q) (all_each reads (target_openings names) parts (subst (AreRead widths places) opens h))

  -- ---- labels and arms

  pub read_label : (x : Label) (items more : List Expr) → x ≡ l.Items items → more ≡ items → LabelRead widths places names x → AllRead widths places names more
  read_label x items more is q h =
      subst (AllRead widths places names) (sym q) (all_each reads (openings_of names) items (subst (LabelRead widths places names) is h))

  abbrev arm_openings : Arm → List Site
  arm_openings = fold-Arm (List Site) (List Site) (stmt_opening_step names) (arm_opening_step names)

  read_arm : (a : Arm) → AreRead widths places (arm_openings a) → ArmRead widths places names a
  read_arm a h =
      let all =
      subst (AreRead widths places) (fold-roll-Arm (List Site) (List Site) (stmt_opening_step names) (arm_opening_step names) (record { label = a.label; body = a.body })) h in
      (all_front reads (items_openings names a.label) (stmt_openings names a.body) all, all_back reads (items_openings names a.label) (stmt_openings names a.body) all)

  -- ---- statements

  pub read_block : (x : Stmt) (body more : List Stmt) → x ≡ s.Block body → more ≡ body → StmtRead widths places names x → All (StmtRead widths places names) more
  read_block x body more is q h =
      let opens : stmt_openings names x ≡ flat_map (stmt_openings names) body =
      ap (stmt_openings names) (is ∙ sym (s.rolls-Block body)) ∙ fold-roll-Stmt (List Site) (List Site) (stmt_opening_step names) (arm_opening_step names) (o.Block body)
      ∙ flat_map-map (λ (y : List Site). y) (stmt_openings names) body in
      subst (All (StmtRead widths places names)) (sym q) (all_each reads (stmt_openings names) body (subst (AreRead widths places) opens h))

  pub read_if : (x a a' : Stmt) (c : Expr) → x ≡ s.If c a → a' ≡ a → StmtRead widths places names x → IsRead widths places names c × StmtRead widths places names a'
  read_if x a a' c is q h =
      let all =
      subst (AreRead widths places)
      (ap (stmt_openings names) (is ∙ sym (s.rolls-If c a)) ∙ fold-roll-Stmt (List Site) (List Site) (stmt_opening_step names) (arm_opening_step names) (o.If c a)) h in (
        all_front reads (openings_of names c) (stmt_openings names a) all,
        subst (StmtRead widths places names) (sym q) (all_back reads (openings_of names c) (stmt_openings names a) all),
      )

  pub read_if_else : (x a a' b b' : Stmt) (c : Expr) → x ≡ s.IfElse c a b → a' ≡ a → b' ≡ b → StmtRead widths places names x →
      IsRead widths places names c × StmtRead widths places names a' × StmtRead widths places names b'
  read_if_else x a a' b b' c is q r h =
      let all =
      subst (AreRead widths places)
      (ap (stmt_openings names) (is ∙ sym (s.rolls-IfElse c a b)) ∙ fold-roll-Stmt (List Site) (List Site) (stmt_opening_step names) (arm_opening_step names) (o.IfElse c a b)) h in
      let first_two = all_front reads (openings_of names c ++ stmt_openings names a) (stmt_openings names b) all in (
        all_front reads (openings_of names c) (stmt_openings names a) first_two,
        subst (StmtRead widths places names) (sym q) (all_back reads (openings_of names c) (stmt_openings names a) first_two),
        subst (StmtRead widths places names) (sym r) (all_back reads (openings_of names c ++ stmt_openings names a) (stmt_openings names b) all),
      )

  pub read_case : (x : Stmt) (kind : CaseKind) (subject : Expr) (arms more : List Arm) → x ≡ s.Case kind subject arms → more ≡ arms → StmtRead widths places names x →
      IsRead widths places names subject × All (ArmRead widths places names) more
  read_case x kind subject arms more is q h =
      let opens : stmt_openings names x ≡ openings_of names subject ++ flat_map arm_openings arms =
      ap (stmt_openings names) (is ∙ sym (s.rolls-Case kind subject arms))
      ∙ fold-roll-Stmt (List Site) (List Site) (stmt_opening_step names) (arm_opening_step names) (o.Case kind subject arms)
      ∙ ap (λ (r : List Site). openings_of names subject ++ r) (flat_map-map (λ (y : List Site). y) arm_openings arms) in
      let all = subst (AreRead widths places) opens h in (
        all_front reads (openings_of names subject) (flat_map arm_openings arms) all,
        subst (All (ArmRead widths places names)) (sym q)
            (All-weaker (λ (a : Arm). AreRead widths places (arm_openings a)) (ArmRead widths places names) read_arm arms
            (all_each reads arm_openings arms (all_back reads (openings_of names subject) (flat_map arm_openings arms) all))),
      )

  pub read_assign : (x : Stmt) (target other : Target) (kind : AssignKind) (value : Expr) → x ≡ s.Assign target kind value → other ≡ target → StmtRead widths places names x →
      TargetRead widths places names other × IsRead widths places names value
  read_assign x target other kind value is q h =
      let all =
      subst (AreRead widths places)
      (ap (stmt_openings names) (is ∙ sym (s.rolls-Assign target kind value))
      ∙ fold-roll-Stmt (List Site) (List Site) (stmt_opening_step names) (arm_opening_step names) (o.Assign target kind value)) h in (
        subst (TargetRead widths places names) (sym q) (all_front reads (target_openings names target) (openings_of names value) all),
        all_back reads (target_openings names target) (openings_of names value) all,
      )
