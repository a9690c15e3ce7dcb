-- The names of a module that declares none twice: each is that of one entry.
use Rattle.std.proofs.Common.{◌≡◌, ℕ, List, [], ◌∷◌, ◌++◌, map, flat_map, fold, Bool, true, false, cond, Option, None, Some, refl, sym, ap, subst, ◌∙◌, inl, inr, append_assoc, append-nil}
use Rattle.std.specs.Prelude.{⊤, ◌||◌, if◌then◌else◌, bytes_eq}
use Rattle.std.proofs.lemmas.Bool.{or_parts}
use Rattle.std.proofs.lemmas.Slice.Eq.{bytes_eq-Decides}
use Rattle.lz_base.specs.Names.{is_among}
use Rattle.std.proofs.lemmas.List.{map-append}
use Rattle.v_syntax.specs.declared.expr.Expr.{Expr}
use Rattle.v_syntax.specs.declared.expr.Expr.TheOpen.{Expr-F}
use Rattle.v_syntax.specs.declared.expr.Expr.TheOpen as o
use Rattle.v_syntax.specs.declared.expr.Expr.TheFolds.{map-Expr, para-roll-Expr, ind-Expr}
use Rattle.v_syntax.specs.declared.expr.Number.{Number}
use Rattle.v_syntax.specs.declared.expr.Placed.{Placed}
use Rattle.v_syntax.specs.declared.expr.Range.{Range}
use Rattle.v_syntax.specs.declared.expr.BinaryOperator.{BinaryOperator}
use Rattle.v_syntax.specs.declared.stmt.Target.{Target}
use Rattle.v_syntax.specs.declared.stmt.Target.TheOpen.{Target-F}
use Rattle.v_syntax.specs.declared.stmt.Target.TheOpen as t
use Rattle.v_syntax.specs.declared.stmt.Target.TheFolds.{map-Target, para-roll-Target, ind-Target}
use Rattle.v_syntax.specs.declared.stmt.Label.{Label}
use Rattle.v_syntax.specs.declared.stmt.Label.TheVariants as l
use Rattle.v_syntax.specs.declared.stmt.CaseKind.{CaseKind}
use Rattle.v_syntax.specs.declared.stmt.CaseKind.TheVariants as c
use Rattle.v_syntax.specs.declared.stmt.Arm.{Arm}
use Rattle.v_syntax.specs.declared.stmt.Stmt.{Stmt}
use Rattle.v_syntax.specs.declared.stmt.Stmt.TheOpen.{Stmt-F, Arm-F}
use Rattle.v_syntax.specs.declared.stmt.Stmt.TheOpen as s
use Rattle.v_syntax.specs.declared.stmt.Stmt.TheFolds.{map-Stmt, fold-Arm, fold-roll-Stmt, fold-roll-Arm, ind-Stmt}
use Rattle.v_syntax.specs.declared.module.Setting.{Setting}
use Rattle.v_syntax.specs.declared.module.Declared.{Declared}
use Rattle.v_syntax.specs.declared.module.Variable.{Variable}
use Rattle.v_syntax.specs.declared.module.Variable.TheVariants as v
use Rattle.v_syntax.specs.declared.module.ParameterGroup.{ParameterGroup}
use Rattle.v_syntax.specs.declared.module.PortGroup.{PortGroup}
use Rattle.v_syntax.specs.declared.module.Event.TheVariants as w
use Rattle.v_syntax.specs.declared.module.Item.{Item}
use Rattle.v_syntax.specs.declared.module.Item.TheVariants as i
use Rattle.v_syntax.specs.declared.module.Module.{Module}
use Rattle.v_meaning.specs.declared.names.Entry.{Entry}
use Rattle.v_meaning.specs.Declarations.{Roles, joined_lists, roles_of, parameter_entry, port_entry, wire_entry, variable_entry, behind_parameters, behind_ports, behind_item, behind_header, names_of}
use Rattle.v_meaning.specs.Literals.{is_unsized}
use Rattle.v_meaning.specs.Names.{found}
use Rattle.v_meaning.specs.Expressions.{number_by_itself}
use Rattle.v_meaning.specs.Marks.{Mark, Declares, Valued, Used, Digits, UnsizedPart, Joined, Again, unsized_number, parts_marks, links_marks, mark_step, marks_of, placed_marks, range_marks, targets_marks, target_mark_step, target_marks, item_digits, item_marks, ArmMarks, label_marks, is_default, arms_marks, stmt_mark_step, stmt_marks, setting_marks, parameter_marks, declared_marks, port_marks, variable_marks, assign_marks, event_marks, module_item_marks, module_marks}
use Rattle.v_meaning.specs.MarkRules.{place_if, declared_twice, declared_in}
use Rattle.v_order.proofs.Numbering.{In}

-- ---- marks of expressions declare nothing

declared_more : (xs ys : List Mark) → declared_in (xs ++ ys) ≡ declared_in xs ++ declared_in ys
declared_more [] ys = refl
declared_more (Declares n ∷ xs) ys = ap (λ l. n.name ∷ l) (declared_more xs ys)
declared_more (Valued n ∷ xs) ys = declared_more xs ys
declared_more (Used form n ∷ xs) ys = declared_more xs ys
declared_more (Digits item n ∷ xs) ys = declared_more xs ys
declared_more (UnsizedPart at ∷ xs) ys = declared_more xs ys
declared_more (Joined width brace ∷ xs) ys = declared_more xs ys
declared_more (Again at ∷ xs) ys = declared_more xs ys

-- no name is declared among these
abbrev Bare : List Mark → Type 0
Bare marks = declared_in marks ≡ []

bare_more : (xs ys : List Mark) → Bare xs → Bare ys → Bare (xs ++ ys)
bare_more xs ys h k = declared_more xs ys ∙ ap (λ l. l ++ declared_in ys) h ∙ k

unsized_case : (b : Bool) (at : ℕ) → Bare (if b then UnsizedPart at ∷ [] else [])
unsized_case true at = refl
unsized_case false at = refl

bare_unsized : (n : Option Number) → Bare (unsized_number n)
bare_unsized None = refl
bare_unsized (Some n) = unsized_case (is_unsized n.spelling) n.at

module _ (names : List Entry) where
  abbrev BareExpr : Expr → Type 0
  BareExpr x = Bare (marks_of names x)

  abbrev Known : Type 0
  Known = (x : Expr) × BareExpr x

  abbrev plain : Known → Expr
  plain x = x.0

  abbrev marking : Expr → Expr × List Mark
  marking x = (x, marks_of names x)

  bare_links : (links : List (BinaryOperator × Known)) → Bare (links_marks (map (λ (l : BinaryOperator × Expr). (l.0, marking l.1)) (map (λ (l : BinaryOperator × Known). (l.0, plain l.1)) links)))
  bare_links [] = refl
  bare_links (l ∷ ls) = bare_more (marks_of names l.1.0) (links_marks (map (λ (l : BinaryOperator × Expr). (l.0, marking l.1)) (map (λ (l : BinaryOperator × Known). (l.0, plain l.1)) ls))) l.1.1 (bare_links ls)

  bare_parts : (parts : List Known) → Bare (parts_marks (map marking (map plain parts)))
  bare_parts [] = refl
  bare_parts (x ∷ xs) =
      bare_more (unsized_number (number_by_itself x.0) ++ marks_of names x.0) (parts_marks (map marking (map plain xs)))
      (bare_more (unsized_number (number_by_itself x.0)) (marks_of names x.0) (bare_unsized (number_by_itself x.0)) x.1) (bare_parts xs)

  abbrev Layer : Expr-F Expr → Type 0
  Layer y = Bare (mark_step names (map-Expr Expr (Expr × List Mark) marking y))

  layer : (y : Expr-F Known) → Layer (map-Expr Known Expr plain y)
  layer (o.Number n) = refl
  layer (o.Name n) = refl
  layer (o.Select n bracket index) = index.1
  layer (o.Part n bracket msb_at msb lsb_at lsb) = bare_more (marks_of names msb.0) (marks_of names lsb.0) msb.1 lsb.1
  layer (o.Unary op x) = x.1
  layer (o.Chain x links) = bare_more (marks_of names x.0) (links_marks (map (λ (l : BinaryOperator × Expr). (l.0, marking l.1)) (map (λ (l : BinaryOperator × Known). (l.0, plain l.1)) links))) x.1 (bare_links links)
  layer (o.Conditional c x y) =
      bare_more (marks_of names c.0 ++ marks_of names x.0) (marks_of names y.0) (bare_more (marks_of names c.0) (marks_of names x.0) c.1 x.1) y.1
  layer (o.Concat brace parts) = bare_parts parts
  layer (o.Replicate brace at count inner parts) = bare_more (marks_of names count.0) (parts_marks (map marking (map plain parts))) count.1 (bare_parts parts)
  layer (o.Cast sign x) = x.1

  pub bare_expr : (x : Expr) → Bare (marks_of names x)
  bare_expr = ind-Expr BareExpr (λ x y is. ap declared_in (para-roll-Expr (List Mark) (mark_step names) x) ∙ subst Layer is (layer y))

-- ---- marks of statements declare nothing

module _ (names : List Entry) where
  bare_range : (range : Option Range) → Bare (range_marks names range)
  bare_range None = refl
  bare_range (Some r) = bare_more (marks_of names r.msb.expr) (marks_of names r.lsb.expr) (bare_expr names r.msb.expr) (bare_expr names r.lsb.expr)

  bare_placed : (x : Option Placed) → Bare (placed_marks names x)
  bare_placed None = refl
  bare_placed (Some x) = bare_expr names x.expr

  bare_each : {A : Type 0} (marks : A → List Mark) → ((x : A) → Bare (marks x)) → (xs : List A) → Bare (flat_map marks xs)
  bare_each marks one [] = refl
  bare_each marks one (x ∷ xs) = bare_more (marks x) (flat_map marks xs) (one x) (bare_each marks one xs)

  abbrev BareTarget : Target → Type 0
  BareTarget x = Bare (target_marks names x)

  abbrev KnownTarget : Type 0
  KnownTarget = (x : Target) × BareTarget x

  abbrev plain_target : KnownTarget → Target
  plain_target x = x.0

  abbrev marking_target : Target → Target × List Mark
  marking_target x = (x, target_marks names x)

  bare_targets : (xs : List KnownTarget) → Bare (targets_marks (map marking_target (map plain_target xs)))
  bare_targets [] = refl
  bare_targets (x ∷ xs) = bare_more (target_marks names x.0) (targets_marks (map marking_target (map plain_target xs))) x.1 (bare_targets xs)

  abbrev TargetLayer : Target-F Target → Type 0
  TargetLayer y = Bare (target_mark_step names (map-Target Target (Target × List Mark) marking_target y))

  target_layer : (y : Target-F KnownTarget) → TargetLayer (map-Target KnownTarget Target plain_target y)
  target_layer (t.Name n) = refl
  target_layer (t.Select n bracket index) = bare_expr names index
  target_layer (t.Part n r) = bare_range (Some r)
  target_layer (t.Concat brace parts) = bare_targets parts

  bare_target : (x : Target) → BareTarget x
  bare_target = ind-Target BareTarget (λ x y is. ap declared_in (para-roll-Target (List Mark) (target_mark_step names) x) ∙ subst TargetLayer is (target_layer y))

  digits_case : (n : Option Number) (marks : List Mark) → Bare marks → Bare (item_digits n marks)
  digits_case None marks h = h
  digits_case (Some n) marks h = refl

  bare_item : (kind : CaseKind) (x : Expr) → Bare (item_marks names kind x)
  bare_item c.Case x = bare_expr names x
  bare_item c.Casez x = digits_case (number_by_itself x) (marks_of names x) (bare_expr names x)

  again_case : (met : Bool) (at : ℕ) → Bare (if met then Again at ∷ [] else [])
  again_case true at = refl
  again_case false at = refl

  bare_label : (kind : CaseKind) (met : Bool) (label : Label) → Bare (label_marks names kind met label)
  bare_label kind met (l.Items xs) = bare_each (item_marks names kind) (bare_item kind) xs
  bare_label kind met (l.Default at) = again_case met at

  abbrev BareStmt : Stmt → Type 0
  BareStmt x = Bare (stmt_marks names x)

  abbrev BareArm : Arm → Type 0
  BareArm a = BareStmt a.body

  abbrev KnownStmt : Type 0
  KnownStmt = (x : Stmt) × BareStmt x

  abbrev KnownArm : Type 0
  KnownArm = (a : Arm) × BareArm a

  abbrev plain_stmt : KnownStmt → Stmt
  plain_stmt x = x.0

  abbrev plain_arm : KnownArm → Arm
  plain_arm a = a.0

  abbrev mark_arm : Arm-F (List Mark) ArmMarks → ArmMarks
  mark_arm arm = record { label = arm.label; body = arm.body }

  abbrev arm_marks : Arm → ArmMarks
  arm_marks = fold-Arm (List Mark) ArmMarks (stmt_mark_step names) mark_arm

  arm_marked : (a : Arm) → arm_marks a ≡ record { label = a.label; body = stmt_marks names a.body }
  arm_marked a = fold-roll-Arm (List Mark) ArmMarks (stmt_mark_step names) mark_arm (record { label = a.label; body = a.body })

  bare_body : (xs : List KnownStmt) → Bare (joined_lists (map (stmt_marks names) (map plain_stmt xs)))
  bare_body [] = refl
  bare_body (x ∷ xs) = bare_more (stmt_marks names x.0) (joined_lists (map (stmt_marks names) (map plain_stmt xs))) x.1 (bare_body xs)

  bare_arms : (kind : CaseKind) (met : Bool) (arms : List KnownArm) → Bare (arms_marks names kind met (map arm_marks (map plain_arm arms)))
  bare_arms kind met [] = refl
  bare_arms kind met (a ∷ arms) =
      let more : List ArmMarks = map arm_marks (map plain_arm arms) in
      let label : List Mark = label_marks names kind met a.0.label in
      subst (λ (m : ArmMarks). Bare (label_marks names kind met m.label ++ m.body ++ arms_marks names kind (met || is_default m.label) more)) (sym (arm_marked a.0))
      (bare_more (label ++ stmt_marks names a.0.body) (arms_marks names kind (met || is_default a.0.label) more)
      (bare_more label (stmt_marks names a.0.body) (bare_label kind met a.0.label) a.1) (bare_arms kind (met || is_default a.0.label) arms))

  abbrev StmtLayer : Stmt-F Stmt Arm → Type 0
  StmtLayer y = Bare (stmt_mark_step names (map-Stmt Stmt Arm (List Mark) ArmMarks (stmt_marks names) arm_marks y))

  stmt_layer : (y : Stmt-F KnownStmt KnownArm) → StmtLayer (map-Stmt KnownStmt KnownArm Stmt Arm plain_stmt plain_arm y)
  stmt_layer s.Null = refl
  stmt_layer (s.Block xs) = bare_body xs
  stmt_layer (s.If x a) = bare_more (marks_of names x) (stmt_marks names a.0) (bare_expr names x) a.1
  stmt_layer (s.IfElse x a b) =
      bare_more (marks_of names x ++ stmt_marks names a.0) (stmt_marks names b.0) (bare_more (marks_of names x) (stmt_marks names a.0) (bare_expr names x) a.1) b.1
  stmt_layer (s.Case kind subject arms) =
      bare_more (marks_of names subject) (arms_marks names kind false (map arm_marks (map plain_arm arms))) (bare_expr names subject) (bare_arms kind false arms)
  stmt_layer (s.Assign target kind value) = bare_more (target_marks names target) (marks_of names value) (bare_target target) (bare_expr names value)

  bare_stmt : (x : Stmt) → BareStmt x
  bare_stmt = ind-Stmt BareStmt BareArm
      (λ x y is. ap declared_in (fold-roll-Stmt (List Mark) ArmMarks (stmt_mark_step names) mark_arm x) ∙ subst StmtLayer is (stmt_layer y))
      (λ x y is. subst (λ (z : Arm-F Stmt Arm). BareStmt z.body) is y.body.1)

-- ---- the names that are declared are those of the entries

abbrev pub entry_names : List Entry → List (List ℕ)
entry_names names = map (λ (e : Entry). e.name) names

after_bare : (xs ys : List Mark) → Bare xs → declared_in (xs ++ ys) ≡ declared_in ys
after_bare xs ys h = declared_more xs ys ∙ ap (λ l. l ++ declared_in ys) h

fold_declares : {A : Type 0} (f : List Entry → A → List Entry) (marks : A → List Mark) → ((before : List Entry) (x : A) → entry_names (f before x) ≡ entry_names before ++ declared_in (marks x)) →
    (xs : List A) (before : List Entry) → entry_names (fold f before xs) ≡ entry_names before ++ declared_in (flat_map marks xs)
fold_declares f marks step [] before = sym (append-nil (entry_names before))
fold_declares f marks step (x ∷ xs) before =
    fold_declares f marks step xs (f before x) ∙ ap (λ l. l ++ declared_in (flat_map marks xs)) (step before x)
    ∙ append_assoc (entry_names before) (declared_in (marks x)) (declared_in (flat_map marks xs))
    ∙ ap (λ l. entry_names before ++ l) (sym (declared_more (marks x) (flat_map marks xs)))

push_name : (before : List Entry) (e : Entry) (marks : List Mark) → e.name ∷ [] ≡ declared_in marks → entry_names (before ++ e ∷ []) ≡ entry_names before ++ declared_in marks
push_name before e marks is = map-append (λ (x : Entry). x.name) before (e ∷ []) ∙ ap (λ l. entry_names before ++ l) is

behind_range : (names before : List Entry) (range : Option Range) (more : List Mark) (after : List Entry) → entry_names after ≡ entry_names before ++ declared_in more →
    entry_names after ≡ entry_names before ++ declared_in (range_marks names range ++ more)
behind_range names before range more after h = h ∙ ap (λ l. entry_names before ++ l) (sym (after_bare (range_marks names range) more (bare_range names range)))

module _ (roles : Roles) (names : List Entry) where
  declared_name : (d : Declared) → d.name.name ∷ [] ≡ declared_in (declared_marks names d)
  declared_name d = ap (λ l. d.name.name ∷ l) (sym (bare_placed names d.value))

  parameters_declare : (before : List Entry) (group : ParameterGroup) → entry_names (behind_parameters before group) ≡ entry_names before ++ declared_in (parameter_marks names group)
  parameters_declare before group =
      behind_range names before group.range (flat_map (setting_marks names) group.settings) (behind_parameters before group)
      (fold_declares (λ before s. before ++ parameter_entry before group s ∷ []) (setting_marks names)
      (λ before s. push_name before (parameter_entry before group s) (setting_marks names s)
      (ap (λ l. s.name.name ∷ l) (sym (bare_more (marks_of names s.value.expr) (Valued s.name ∷ []) (bare_expr names s.value.expr) refl))))
      group.settings before)

  ports_declare : (before : List Entry) (group : PortGroup) → entry_names (behind_ports roles before group) ≡ entry_names before ++ declared_in (port_marks names group)
  ports_declare before group =
      behind_range names before group.range (flat_map (declared_marks names) group.ports) (behind_ports roles before group)
      (fold_declares (λ before d. before ++ port_entry roles before group d ∷ []) (declared_marks names)
      (λ before d. push_name before (port_entry roles before group d) (declared_marks names d) (declared_name d)) group.ports before)

  variable_declares : (signed : Bool) (range : Option Range) (before : List Entry) (x : Variable) →
      entry_names (before ++ variable_entry roles before signed range x ∷ []) ≡ entry_names before ++ declared_in (variable_marks names x)
  variable_declares signed range before (v.Plain d) = push_name before (variable_entry roles before signed range (v.Plain d)) (declared_marks names d) (declared_name d)
  variable_declares signed range before (v.Memory name addresses) =
      push_name before (variable_entry roles before signed range (v.Memory name addresses)) (variable_marks names (v.Memory name addresses))
      (ap (λ l. name.name ∷ l) (sym (bare_range names (Some addresses))))

  bare_event_case : (item : Item) (before : List Entry) (marks : List Mark) → Bare marks → entry_names before ≡ entry_names before ++ declared_in marks
  bare_event_case item before marks h = sym (append-nil (entry_names before)) ∙ ap (λ l. entry_names before ++ l) (sym h)

  bare_assign : (x : Setting) → Bare (assign_marks names x)
  bare_assign x = bare_expr names x.value.expr

  item_declares : (before : List Entry) (item : Item) → entry_names (behind_item roles before item) ≡ entry_names before ++ declared_in (module_item_marks names item)
  item_declares before (i.Parameters group) = parameters_declare before group
  item_declares before (i.LocalParameters group) = parameters_declare before group
  item_declares before (i.Wires signed range nets) =
      behind_range names before range (flat_map (declared_marks names) nets) (behind_item roles before (i.Wires signed range nets))
      (fold_declares (λ before d. before ++ wire_entry before signed range d ∷ []) (declared_marks names)
      (λ before d. push_name before (wire_entry before signed range d) (declared_marks names d) (declared_name d)) nets before)
  item_declares before (i.Regs signed range variables) =
      behind_range names before range (flat_map (variable_marks names) variables) (behind_item roles before (i.Regs signed range variables))
      (fold_declares (λ before x. before ++ variable_entry roles before signed range x ∷ []) (variable_marks names) (variable_declares signed range) variables before)
  item_declares before (i.Assigns settings) =
      bare_event_case (i.Assigns settings) before (flat_map (assign_marks names) settings) (bare_each names (assign_marks names) bare_assign settings)
  item_declares before (i.Always (w.Posedge event) body) = bare_event_case (i.Always (w.Posedge event) body) before (event_marks (w.Posedge event) ++ stmt_marks names body) (bare_stmt names body)
  item_declares before (i.Always w.Any body) = bare_event_case (i.Always w.Any body) before (event_marks w.Any ++ stmt_marks names body) (bare_stmt names body)

names_declared : (names : List Entry) (m : Module) → entry_names (names_of m) ≡ declared_in (module_marks names m)
names_declared names m =
    let roles : Roles = roles_of m.items in
    let first : List Mark = flat_map (parameter_marks names) m.parameters in
    let ports : List Mark = flat_map (port_marks names) m.ports in
    let items : List Mark = flat_map (module_item_marks names) m.items in
    fold_declares (behind_item roles) (module_item_marks names) (item_declares roles names) m.items (behind_header roles m)
    ∙ ap (λ l. l ++ declared_in items)
    (fold_declares (behind_ports roles) (port_marks names) (ports_declare roles names) m.ports (fold behind_parameters [] m.parameters)
    ∙ ap (λ l. l ++ declared_in ports) (fold_declares behind_parameters (parameter_marks names) (parameters_declare roles names) m.parameters [])
    ∙ sym (declared_more first ports))
    ∙ sym (declared_more (first ++ ports) items)

-- ---- each name once

-- none of these names is among those before it
abbrev pub AreNew : List (List ℕ) → List (List ℕ) → Type 0
AreNew before [] = ⊤
AreNew before (x ∷ xs) = (is_among x before ≡ false) × AreNew (x ∷ before) xs

place_out : (b : Bool) (at : ℕ) (more : List ℕ) → place_if b at ++ more ≡ [] → (b ≡ false) × (more ≡ [])
place_out true at more h = absurd (cc h)
place_out false at more h = (refl, h)

new_names : (before : List (List ℕ)) (marks : List Mark) → declared_twice before marks ≡ [] → AreNew before (declared_in marks)
new_names before [] h = tt
new_names before (Declares n ∷ marks) h = let r = place_out (is_among n.name before) n.at (declared_twice (n.name ∷ before) marks) h in (r.0, new_names (n.name ∷ before) marks r.1)
new_names before (Valued n ∷ marks) h = new_names before marks h
new_names before (Used form n ∷ marks) h = new_names before marks h
new_names before (Digits item n ∷ marks) h = new_names before marks h
new_names before (UnsizedPart at ∷ marks) h = new_names before marks h
new_names before (Joined width brace ∷ marks) h = new_names before marks h
new_names before (Again at ∷ marks) h = new_names before marks h

pub names_new : (m : Module) → declared_twice [] (module_marks (names_of m) m) ≡ [] → AreNew [] (entry_names (names_of m))
names_new m h = subst (AreNew []) (sym (names_declared (names_of m) m)) (new_names [] (module_marks (names_of m) m) h)

new_out : (before : List (List ℕ)) (es : List Entry) (e : Entry) → AreNew before (entry_names es) → In e es → is_among e.name before ≡ false
new_out before [] e h there = absurd there
new_out before (x ∷ es) e h (inl same) = ap (λ (y : Entry). is_among y.name before) (sym same) ∙ h.0
new_out before (x ∷ es) e h (inr there) = (or_parts (bytes_eq x.name e.name) (is_among e.name before) (new_out (x.name ∷ before) es e h.1 there)).1

found_case : (b : Bool) (x e : Entry) (r : Option Entry) → b ≡ false → r ≡ Some e → cond b (Some x) r ≡ Some e
found_case true x e r out is = absurd (cc out)
found_case false x e r out is = is

-- so the name of an entry is that of this entry
pub found_entry : (before : List (List ℕ)) (es : List Entry) (e : Entry) → AreNew before (entry_names es) → In e es → found es e.name ≡ Some e
found_entry before [] e h there = absurd there
found_entry before (x ∷ es) e h (inl same) =
    ap (λ (b : Bool). cond b (Some x) (found es e.name)) ((bytes_eq-Decides x.name e.name).1 (ap (λ (y : Entry). y.name) same)) ∙ ap (λ (y : Entry). Some y) same
found_entry before (x ∷ es) e h (inr there) =
    found_case (bytes_eq x.name e.name) x e (found es e.name)
    (or_parts (bytes_eq x.name e.name) (is_among e.name before) (new_out (x.name ∷ before) es e h.1 there)).0
    (found_entry (x.name ∷ before) es e h.1 there)
