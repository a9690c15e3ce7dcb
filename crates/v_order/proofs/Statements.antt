-- What holds of the acts of a statement because something else holds of each of its accesses: proved once for the property.
use Rattle.std.proofs.Common.{◌≡◌, ℕ, List, [], ◌∷◌, ◌++◌, map, flat_map, Bool, true, false, sym, ap, subst}
use Rattle.std.specs.Prelude.{if◌then◌else◌}
use Rattle.std.specs.List.{list_any}
use Rattle.std.proofs.lemmas.List.Concat.{flat_map-append}
use Rattle.v_syntax.specs.declared.expr.Expr.{Expr}
use Rattle.v_syntax.specs.declared.stmt.Target.{Target}
use Rattle.v_syntax.specs.declared.stmt.AssignKind.{AssignKind}
use Rattle.v_syntax.specs.declared.stmt.CaseKind.{CaseKind}
use Rattle.v_syntax.specs.declared.stmt.Label.{Label}
use Rattle.v_syntax.specs.declared.stmt.Label.TheVariants as l
use Rattle.v_syntax.specs.declared.stmt.Arm.{Arm}
use Rattle.v_syntax.specs.declared.stmt.Stmt.{Stmt}
use Rattle.v_syntax.specs.declared.stmt.Stmt.TheOpen.{Stmt-F, Arm-F}
use Rattle.v_syntax.specs.declared.stmt.Stmt.TheOpen as s
use Rattle.v_syntax.specs.declared.stmt.Stmt.TheFolds.{map-Stmt, fold-Arm, fold-roll-Stmt, fold-roll-Arm, ind-Stmt}
use Rattle.v_meaning.specs.declared.names.Entry.{Entry}
use Rattle.v_meaning.specs.Expressions.{sense_of}
use Rattle.v_meaning.specs.Targets.{target_of}
use Rattle.v_meaning.specs.Acts.{Acts, End, followed, sequence}
use Rattle.v_meaning.specs.Statements.{ArmActs, label_items, all_items, default_or, default_of, taken, case_acts, writes_of, assign_acts, if_acts, stmt_step, arm_step, acts_of}
use Rattle.v_meaning.specs.Uses.{Access, reads_of, target_use, StmtUse, sequence_use, ArmUse, arm_labels, case_branches, case_reads, use_step, use_of}
use Rattle.v_order.proofs.Settled.{Each}
use Rattle.v_order.proofs.Frames.{each_left, each_right}

-- the property of each access, and that of acts
module _ (names : List Entry) (sites : List ℕ) (I : Access → Type 0) (P : Acts → Type 0) where
  abbrev pub Items : List Expr → Type 0
  Items xs = Each I (flat_map (reads_of names) xs)

  -- an arm of a case with both
  abbrev pub ArmHas : ArmActs → Type 0
  ArmHas a = Items (label_items a.label) × P a.acts

  pub if_has : (b : Bool) (x y : Acts) → P x → P y → P (if b then x else y)
  if_has true x y h k = h
  if_has false x y h k = k

  pub taken_has : (met : Expr → Bool) (arms : List ArmActs) (otherwise : Acts) → Each ArmHas arms → P otherwise → P (taken met arms otherwise)
  taken_has met [] otherwise h k = k
  taken_has met (x ∷ arms) otherwise h k = if_has (list_any met (label_items x.label)) x.acts (taken met arms otherwise) h.0.1 (taken_has met arms otherwise h.1 k)

  default_case : (label : Label) (x y : Acts) → P x → P y → P (default_or label x y)
  default_case (l.Items xs) x y h k = k
  default_case (l.Default at) x y h k = h

  pub default_has : P End → (arms : List ArmActs) → Each ArmHas arms → P (default_of arms)
  default_has none [] h = none
  default_has none (x ∷ arms) h = default_case x.label x.acts (default_of arms) h.0.1 (default_has none arms h.1)

  -- The property passes from the parts of a statement to the whole.
  pub record Passes : Type 0 where
    pub end : P End
    pub behind : (a more : Acts) → P a → P more → P (followed a more)
    pub choice : (x : Expr) (one other : Acts) → Each I (reads_of names x) → P one → P other → P (if_acts (sense_of names sites x) one other)
    pub cases : (kind : CaseKind) (subject : Expr) (arms : List ArmActs) → Each I (reads_of names subject) → Each ArmHas arms → P (case_acts names sites kind subject arms)
    pub assigns : (target : Target) (kind : AssignKind) (value : Expr) → Each I (reads_of names value) → Each I (target_use names kind target).reads → Each I (target_use names kind target).writes →
        P (assign_acts kind (writes_of (target_of names sites target) (sense_of names sites value)))

  module _ (passes : Passes) where
    abbrev AllHave : List Access → Type 0
    AllHave accesses = Each I accesses

    abbrev Holds : Stmt → Type 0
    Holds x = AllHave (use_of names x).all → P (acts_of names sites x)

    abbrev mark_arm : Arm-F StmtUse ArmUse → ArmUse
    mark_arm arm = record { label = arm.label; body = arm.body }

    abbrev arm_use : Arm → ArmUse
    arm_use = fold-Arm StmtUse ArmUse (use_step names) mark_arm

    abbrev arm_acts : Arm → ArmActs
    arm_acts = fold-Arm Acts ArmActs (stmt_step names sites) arm_step

    abbrev ArmHolds : Arm → Type 0
    ArmHolds a = Holds a.body

    abbrev HeldStmt : Type 0
    HeldStmt = (x : Stmt) × Holds x

    abbrev HeldArm : Type 0
    HeldArm = (a : Arm) × ArmHolds a

    abbrev plain_stmt : HeldStmt → Stmt
    plain_stmt x = x.0

    abbrev plain_arm : HeldArm → Arm
    plain_arm a = a.0

    use_arm : (a : Arm) → arm_use a ≡ record { label = a.label; body = use_of names a.body }
    use_arm a = fold-roll-Arm StmtUse ArmUse (use_step names) mark_arm (record { label = a.label; body = a.body })

    acts_arm : (a : Arm) → arm_acts a ≡ record { label = a.label; acts = acts_of names sites a.body }
    acts_arm a = fold-roll-Arm Acts ArmActs (stmt_step names sites) arm_step (record { label = a.label; body = a.body })

    body_holds : (xs : List HeldStmt) → AllHave (sequence_use (map (use_of names) (map plain_stmt xs))).all → P (sequence (map (acts_of names sites) (map plain_stmt xs)))
    body_holds [] h = passes.end
    body_holds (x ∷ xs) h =
        let own : List Access = (use_of names x.0).all in
        let more : List Access = (sequence_use (map (use_of names) (map plain_stmt xs))).all in
        passes.behind (acts_of names sites x.0) (sequence (map (acts_of names sites) (map plain_stmt xs))) (x.1 (each_left I own more h)) (body_holds xs (each_right I own more h))

    -- the arms, where the items are read before the bodies
    arms_hold : (arms : List HeldArm) → Items (all_items (arm_labels (map arm_use (map plain_arm arms)))) →
        AllHave (flat_map (λ (x : StmtUse). x.all) (map (λ (a : ArmUse). a.body) (map arm_use (map plain_arm arms)))) → Each ArmHas (map arm_acts (map plain_arm arms))
    arms_hold [] h k = tt
    arms_hold (a ∷ arms) h k =
        let uses : List ArmUse = map arm_use (map plain_arm arms) in
        let items = subst (λ (u : ArmUse). Items (label_items u.label ++ all_items (arm_labels uses))) (use_arm a.0) h in
        let bodies = subst (λ (u : ArmUse). AllHave (u.body.all ++ flat_map (λ (x : StmtUse). x.all) (map (λ (b : ArmUse). b.body) uses))) (use_arm a.0) k in
        let more : List Access = flat_map (λ (x : StmtUse). x.all) (map (λ (b : ArmUse). b.body) uses) in
        let split = subst AllHave (flat_map-append (reads_of names) (label_items a.0.label) (all_items (arm_labels uses))) items in
        let front : List Access = flat_map (reads_of names) (label_items a.0.label) in
        let back : List Access = flat_map (reads_of names) (all_items (arm_labels uses)) in (
          subst ArmHas (sym (acts_arm a.0)) (each_left I front back split, a.1 (each_left I (use_of names a.0.body).all more bodies)),
          arms_hold arms (each_right I front back split) (each_right I (use_of names a.0.body).all more bodies),
        )

    abbrev Layer : Stmt-F Stmt Arm → Type 0
    Layer y = AllHave (use_step names (map-Stmt Stmt Arm StmtUse ArmUse (use_of names) arm_use y)).all → P (stmt_step names sites (map-Stmt Stmt Arm Acts ArmActs (acts_of names sites) arm_acts y))

    case_layer : (kind : CaseKind) (subject : Expr) (arms : List HeldArm) → Layer (map-Stmt HeldStmt HeldArm Stmt Arm plain_stmt plain_arm (s.Case kind subject arms))
    case_layer kind subject arms h =
        let uses : List ArmUse = map arm_use (map plain_arm arms) in
        let front : List Access = case_reads names subject (arm_labels uses) in
        let bodies : List StmtUse = map (λ (a : ArmUse). a.body) uses in
        let rest : List Access = flat_map (λ (x : StmtUse). x.all) (case_branches names subject uses) in
        let items : List Access = flat_map (reads_of names) (all_items (arm_labels uses)) in
        let first = each_left I front rest h in
        let second = each_right I front rest h in
        passes.cases kind subject (map arm_acts (map plain_arm arms)) (each_left I (reads_of names subject) items first)
        (arms_hold arms (each_right I (reads_of names subject) items first) (branches_have bodies _ second)) where
          branches_have : (xs ys : List StmtUse) → AllHave (flat_map (λ (x : StmtUse). x.all) (xs ++ ys)) → AllHave (flat_map (λ (x : StmtUse). x.all) xs)
          branches_have xs ys k =
              each_left I (flat_map (λ (x : StmtUse). x.all) xs) (flat_map (λ (x : StmtUse). x.all) ys) (subst AllHave (flat_map-append (λ (x : StmtUse). x.all) xs ys) k)

    layer : (y : Stmt-F HeldStmt HeldArm) → Layer (map-Stmt HeldStmt HeldArm Stmt Arm plain_stmt plain_arm y)
    layer s.Null h = passes.end
    layer (s.Block xs) h = body_holds xs h
    layer (s.If x a) h =
        let one : List Access = (use_of names a.0).all in
        let rest = each_right I (reads_of names x) (one ++ ([] ++ [])) h in
        passes.choice x (acts_of names sites a.0) End (each_left I (reads_of names x) (one ++ ([] ++ [])) h) (a.1 (each_left I one ([] ++ []) rest)) passes.end
    layer (s.IfElse x a b) h =
        let one : List Access = (use_of names a.0).all in
        let other : List Access = (use_of names b.0).all in
        let rest = each_right I (reads_of names x) (one ++ (other ++ [])) h in
        passes.choice x (acts_of names sites a.0) (acts_of names sites b.0) (each_left I (reads_of names x) (one ++ (other ++ [])) h)
        (a.1 (each_left I one (other ++ []) rest)) (b.1 (each_left I other [] (each_right I one (other ++ []) rest)))
    layer (s.Case kind subject arms) h = case_layer kind subject arms h
    layer (s.Assign target kind value) h =
        let reads : List Access = reads_of names value in
        let indices : List Access = (target_use names kind target).reads in
        let writes : List Access = (target_use names kind target).writes in
        let front = each_left I (reads ++ indices) writes h in
        passes.assigns target kind value (each_left I reads indices front) (each_right I reads indices front) (each_right I (reads ++ indices) writes h)

    pub acts_have : (x : Stmt) → Holds x
    acts_have = ind-Stmt Holds ArmHolds
        (λ x y is h. subst P (sym (fold-roll-Stmt Acts ArmActs (stmt_step names sites) arm_step x))
        (subst Layer is (layer y) (subst AllHave (ap (λ (u : StmtUse). u.all) (fold-roll-Stmt StmtUse ArmUse (use_step names) mark_arm x)) h)))
        (λ x y is. subst (λ (z : Arm-F Stmt Arm). Holds z.body) is y.body.1)
