-- The openings of a target and of a statement are at its tokens, one behind another.
use Rattle.std.proofs.Common.{◌≡◌, ℕ, zero, suc, Bool, true, false, List, [], ◌∷◌, ◌++◌, map, flat_map, refl, sym, ap, ◌∙◌}
use Rattle.std.proofs.lemmas.List.Concat.{flat_map-cons}
use Rattle.std.proofs.lemmas.List.Folds.{flat_map-map}
use Rattle.v_syntax.specs.declared.token.Ident.{Ident}
use Rattle.v_syntax.specs.declared.expr.Expr.{Expr}
use Rattle.v_syntax.specs.declared.expr.Range.{Range}
use Rattle.v_syntax.specs.declared.stmt.Target.{Target}
use Rattle.v_syntax.specs.declared.stmt.Target.TheVariants as t
use Rattle.v_syntax.specs.declared.stmt.Target.TheOpen as q
use Rattle.v_syntax.specs.declared.stmt.Target.TheFolds.{fold-roll-Target}
use Rattle.v_syntax.specs.declared.stmt.AssignKind.{AssignKind}
use Rattle.v_syntax.specs.declared.stmt.CaseKind.{CaseKind}
use Rattle.v_syntax.specs.declared.stmt.Arm.{Arm}
use Rattle.v_syntax.specs.declared.stmt.Stmt.{Stmt}
use Rattle.v_syntax.specs.declared.stmt.Stmt.TheVariants as s
use Rattle.v_syntax.specs.declared.stmt.Stmt.TheOpen as o
use Rattle.v_syntax.specs.declared.stmt.Stmt.TheFolds.{fold-Arm, fold-roll-Stmt, fold-roll-Arm}
use Rattle.v_syntax.specs.Rule.{Rule}
use Rattle.v_syntax.specs.Grammar.{inner_levels}
use Rattle.v_syntax.specs.StmtGrammar.{IsWhole, IsPlace, IsBraced, IsTarget, IsAssignKind, IsAssign, IsNull, IsBlock, IsEmptyBlock, IsCondition, IsCaseKind, IsLabel, IsArm, IsCase, IsIf, IsIfElse, IsSimple, unless, IsStmt}
use Rattle.v_meaning.specs.declared.names.Entry.{Entry}
use Rattle.v_meaning.specs.Declarations.{joined_lists}
use Rattle.v_meaning.specs.Sites.{Site}
use Rattle.v_places.specs.Openings.{openings_of, target_opening_step, target_openings, items_openings, stmt_opening_step, arm_opening_step, stmt_openings}
use Rattle.v_places.proofs.Spans.{Within, within_whole, behind_bind, behind_then, behind_yields, behind_or, within_or, within_token, within_ident, within_many, within_several, within_listed}
use Rattle.v_places.proofs.Exprs.{WithinExpr, within_range, within_expr}

module _ (names : List Entry) where
  pub within_whole_expr : WithinExpr names IsWhole
  within_whole_expr = within_expr names inner_levels

  -- ---- targets

  target_name : (n : Ident) → target_openings names (t.Name n) ≡ []
  target_name n = ap (target_openings names) (sym (t.rolls-Name n)) ∙ fold-roll-Target (List Site) (target_opening_step names) (q.Name n)

  target_select : (n : Ident) (bracket : ℕ) (index : Expr) → target_openings names (t.Select n bracket index) ≡ openings_of names index
  target_select n bracket index =
      ap (target_openings names) (sym (t.rolls-Select n bracket index)) ∙ fold-roll-Target (List Site) (target_opening_step names) (q.Select n bracket index)

  target_part : (n : Ident) (r : Range) → target_openings names (t.Part n r) ≡ []
  target_part n r = ap (target_openings names) (sym (t.rolls-Part n r)) ∙ fold-roll-Target (List Site) (target_opening_step names) (q.Part n r)

  target_concat : (brace : ℕ) (parts : List Target) → target_openings names (t.Concat brace parts) ≡ flat_map (target_openings names) parts
  target_concat brace parts =
      ap (target_openings names) (sym (t.rolls-Concat brace parts)) ∙ fold-roll-Target (List Site) (target_opening_step names) (q.Concat brace parts)
      ∙ flat_map-map (λ (one : List Site). one) (target_openings names) parts

  abbrev WithinTarget : Rule Target → Type 0
  WithinTarget target = Within target (target_openings names)

  within_place : WithinTarget IsPlace
  within_place = within_or
      (within_whole (behind_then within_ident λ n. behind_yields (target_name n)))
      (within_or
      (within_whole
      (behind_then within_ident λ n. behind_then within_token λ bracket. behind_bind within_whole_expr λ index. behind_then within_token λ _.
      behind_yields (target_select n bracket index)))
      (within_whole (behind_then within_ident λ n. behind_then (within_range names within_whole_expr) λ r. behind_yields (target_part n r))))

  within_braced : {target : Rule Target} → WithinTarget target → WithinTarget (IsBraced target)
  within_braced p = within_whole (behind_then within_token λ brace. behind_bind (within_listed p) λ parts. behind_then within_token λ _. behind_yields (target_concat brace parts))

  within_target : (levels : ℕ) → WithinTarget (IsTarget levels)
  unfolding IsTarget
  within_target zero = within_place
  within_target (suc levels) = within_or (within_braced (within_target levels)) within_place

  -- ---- statements

  stmt_null : stmt_openings names s.Null ≡ []
  stmt_null = ap (stmt_openings names) (sym s.rolls-Null) ∙ fold-roll-Stmt (List Site) (List Site) (stmt_opening_step names) (arm_opening_step names) o.Null

  stmt_block : (body : List Stmt) → stmt_openings names (s.Block body) ≡ flat_map (stmt_openings names) body
  stmt_block body =
      ap (stmt_openings names) (sym (s.rolls-Block body)) ∙ fold-roll-Stmt (List Site) (List Site) (stmt_opening_step names) (arm_opening_step names) (o.Block body)
      ∙ flat_map-map (λ (one : List Site). one) (stmt_openings names) body

  stmt_if : (c : Expr) (a : Stmt) → stmt_openings names (s.If c a) ≡ openings_of names c ++ stmt_openings names a
  stmt_if c a = ap (stmt_openings names) (sym (s.rolls-If c a)) ∙ fold-roll-Stmt (List Site) (List Site) (stmt_opening_step names) (arm_opening_step names) (o.If c a)

  stmt_if_else : (c : Expr) (a b : Stmt) → stmt_openings names (s.IfElse c a b) ≡ openings_of names c ++ stmt_openings names a ++ stmt_openings names b
  stmt_if_else c a b =
      ap (stmt_openings names) (sym (s.rolls-IfElse c a b)) ∙ fold-roll-Stmt (List Site) (List Site) (stmt_opening_step names) (arm_opening_step names) (o.IfElse c a b)

  stmt_assign : (target : Target) (kind : AssignKind) (value : Expr) → stmt_openings names (s.Assign target kind value) ≡ target_openings names target ++ openings_of names value
  stmt_assign target kind value =
      ap (stmt_openings names) (sym (s.rolls-Assign target kind value))
      ∙ fold-roll-Stmt (List Site) (List Site) (stmt_opening_step names) (arm_opening_step names) (o.Assign target kind value)

  abbrev arm_openings : Arm → List Site
  arm_openings a = items_openings names a.label ++ stmt_openings names a.body

  abbrev folded_arm : Arm → List Site
  folded_arm = fold-Arm (List Site) (List Site) (stmt_opening_step names) (arm_opening_step names)

  folded_arms : (arms : List Arm) → joined_lists (map folded_arm arms) ≡ flat_map arm_openings arms
  folded_arms [] = refl
  folded_arms (a ∷ arms) =
      flat_map-cons (λ (one : List Site). one) (folded_arm a) (map folded_arm arms)
      ∙ ap (λ (r : List Site). r ++ joined_lists (map folded_arm arms))
      (fold-roll-Arm (List Site) (List Site) (stmt_opening_step names) (arm_opening_step names) (record { label = a.label; body = a.body }))
      ∙ ap (λ (r : List Site). arm_openings a ++ r) (folded_arms arms) ∙ sym (flat_map-cons arm_openings a arms)

  stmt_case : (kind : CaseKind) (subject : Expr) (arms : List Arm) → stmt_openings names (s.Case kind subject arms) ≡ openings_of names subject ++ flat_map arm_openings arms
  stmt_case kind subject arms =
      ap (stmt_openings names) (sym (s.rolls-Case kind subject arms))
      ∙ fold-roll-Stmt (List Site) (List Site) (stmt_opening_step names) (arm_opening_step names) (o.Case kind subject arms)
      ∙ ap (λ (r : List Site). openings_of names subject ++ r) (folded_arms arms)

  abbrev WithinStmt : Rule Stmt → Type 0
  WithinStmt stmt = Within stmt (stmt_openings names)

  within_assign_kind : Within IsAssignKind (λ _. [])
  within_assign_kind = within_or (within_whole (behind_then within_token λ _. behind_yields refl)) (within_whole (behind_then within_token λ _. behind_yields refl))

  within_assign : WithinStmt IsAssign
  within_assign = within_whole
      (behind_bind (within_target inner_levels) λ target. behind_then within_assign_kind λ kind. behind_bind within_whole_expr λ value. behind_then within_token λ _.
      behind_yields (stmt_assign target kind value))

  within_null : WithinStmt IsNull
  within_null = within_whole (behind_then within_token λ _. behind_yields stmt_null)

  within_block : {stmt : Rule Stmt} → WithinStmt stmt → WithinStmt (IsBlock stmt)
  within_block p = within_whole (behind_then within_token λ _. behind_bind (within_many p) λ body. behind_then within_token λ _. behind_yields (stmt_block body))

  within_empty_block : WithinStmt IsEmptyBlock
  within_empty_block = within_whole (behind_then within_token λ _. behind_then within_token λ _. behind_yields (stmt_block []))

  within_condition : WithinExpr names IsCondition
  within_condition = within_whole (behind_then within_token λ _. behind_bind within_whole_expr λ x. behind_then within_token λ _. behind_yields refl)

  within_case_kind : Within IsCaseKind (λ _. [])
  within_case_kind = within_or (within_whole (behind_then within_token λ _. behind_yields refl)) (within_whole (behind_then within_token λ _. behind_yields refl))

  within_label : Within IsLabel (items_openings names)
  within_label = within_or
      (within_whole (behind_then within_token λ at. behind_or (behind_then within_token λ _. behind_yields refl) (behind_yields refl)))
      (within_whole (behind_bind (within_listed within_whole_expr) λ items. behind_then within_token λ _. behind_yields refl))

  within_arm : {stmt : Rule Stmt} → WithinStmt stmt → Within (IsArm stmt) arm_openings
  within_arm p = within_whole (behind_bind within_label λ label. behind_bind p λ body. behind_yields refl)

  within_case : {stmt : Rule Stmt} → WithinStmt stmt → WithinStmt (IsCase stmt)
  within_case p = within_whole
      (behind_then within_case_kind λ kind. behind_bind within_condition λ subject. behind_bind (within_several (within_arm p)) λ arms. behind_then within_token λ _.
      behind_yields (stmt_case kind subject arms))

  within_if : {stmt : Rule Stmt} → WithinStmt stmt → WithinStmt (IsIf stmt)
  within_if p = within_whole (behind_then within_token λ _. behind_bind within_condition λ c. behind_bind p λ one. behind_yields (stmt_if c one))

  within_if_else : {one_stmt other_stmt : Rule Stmt} → WithinStmt one_stmt → WithinStmt other_stmt → WithinStmt (IsIfElse one_stmt other_stmt)
  within_if_else p r = within_whole
      (behind_then within_token λ _. behind_bind within_condition λ c. behind_bind p λ one. behind_then within_token λ _. behind_bind r λ other.
      behind_yields (stmt_if_else c one other))

  within_simple : {stmt : Rule Stmt} → WithinStmt stmt → WithinStmt (IsSimple stmt)
  within_simple p = within_or within_null (within_or (within_block p) (within_or (within_case p) within_assign))

  within_unless : {stmt : Rule Stmt} → (b : Bool) → WithinStmt stmt → WithinStmt (unless b stmt)
  within_unless true p = record { takes = λ before after a d. absurd d }
  within_unless false p = record { takes = p.takes }

  pub within_stmt : (levels : ℕ) (closed : Bool) → Within (IsStmt levels closed) (stmt_openings names)
  unfolding IsStmt
  within_stmt zero closed = within_or within_null (within_or within_empty_block within_assign)
  within_stmt (suc levels) closed =
      within_or (within_simple (within_stmt levels false))
      (within_or (within_if_else (within_stmt levels true) (within_stmt levels closed)) (within_unless closed (within_if (within_stmt levels false))))
