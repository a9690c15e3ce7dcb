-- What each kind of statement weighs, where a match has found it and its parts were taken out.
use Rattle.std.proofs.Common.{◌≡◌, ◌<◌, ◌≤◌, ◌+◌, ◌*◌, ℕ, List, [], ◌∷◌, ◌++◌, map, length, drop, get_or, arith, Bool, true, refl, sym, ap, ◌∙◌, subst}
use Rattle.std.specs.Prelude.{◌&&◌, sum}
use Rattle.std.specs.List.{list_all}
use Rattle.std.proofs.Math.Numerals.{one-add}
use Rattle.std.proofs.lemmas.List.{drop_all}
use Rattle.std.proofs.lemmas.List.Folds.{list_all-map}
use Rattle.v_syntax.specs.declared.expr.Expr.{Expr}
use Rattle.v_syntax.specs.declared.expr.BinaryOperator.TheVariants as b
use Rattle.v_syntax.specs.declared.stmt.Target.{Target}
use Rattle.v_syntax.specs.declared.stmt.Label.{Label}
use Rattle.v_syntax.specs.declared.stmt.Label.TheVariants as l
use Rattle.v_syntax.specs.declared.stmt.AssignKind.{AssignKind}
use Rattle.v_syntax.specs.declared.stmt.CaseKind.{CaseKind}
use Rattle.v_syntax.specs.declared.stmt.Arm.{Arm}
use Rattle.v_syntax.specs.declared.stmt.Stmt.{Stmt}
use Rattle.v_syntax.specs.declared.stmt.Stmt.TheVariants as s
use Rattle.v_syntax.specs.declared.stmt.Stmt.TheOpen.{Stmt-F, Arm-F}
use Rattle.v_syntax.specs.declared.stmt.Stmt.TheOpen as o
use Rattle.v_syntax.specs.declared.stmt.Stmt.TheFolds.{fold-Arm, fold-roll-Stmt, fold-roll-Arm}
use Rattle.v_meaning.specs.Senses.{Shared}
use Rattle.v_meaning.specs.declared.names.Entry.{Entry}
use Rattle.v_meaning.specs.Expressions.{sense_of, is_constant}
use Rattle.v_meaning.specs.Statements.{label_items, greatest_width, comparison_of}
use Rattle.v_meaning.specs.Targets.{target_of}
use Rattle.v_meaning.specs.Proper.{is_sound}
use Rattle.v_meaning.specs.Weights.{Weighed, weighed, weighed_by, own_weight, weight_at, condition_weight, target_weight, ArmWeight, labels_in, bodies_weight, case_weight, assign_weight, block_weight, stmt_weight_step, stmt_weight}
use Rattle.v_typing.specs.Sound.{all_sound, sound_stmt_step, sound_arm_step, is_sound_stmt, is_sound_target}
use Rattle.v_weight.specs.declared.counting.Counted.{Counted}
use Rattle.v_weight.specs.Saturated.{Same}
use Rattle.v_weight.specs.Counts.{Stands, weighing}
use Rattle.v_weight.specs.Statements.{compared_behind, Compares, arm_labels, arms_items, comparison_weight, block_sound, is_sound_arm, arms_sound}
use Rattle.v_weight.proofs.Saturating.{same_path, same_trans}
use Rattle.v_weight.proofs.Lists.{first_of, second_of, next_is, passes, sum_cons, Sums, Adds, sums_next, sums_end}

-- ---- what a case compares

compared_more : (names : List Entry) (x : Weighed) (xs ys : List Expr) → compared_behind names x (xs ++ ys) ≡ compared_behind names (compared_behind names x xs) ys
compared_more names x [] ys = refl
compared_more names x (y ∷ xs) ys = compared_more names (weighed_by Shared b.Add (is_constant names y) x (weighed names (weighing names y))) xs ys

compared_width : (names : List Entry) (x : Weighed) (xs : List Expr) → (compared_behind names x xs).width ≡ greatest_width (map (sense_of names []) xs) x.width
compared_width names x [] = refl
compared_width names x (y ∷ xs) = compared_width names (weighed_by Shared b.Add (is_constant names y) x (weighed names (weighing names y))) xs

one_more : (n w a x s t : ℕ) → t ≡ x + s → n * w + (w + a + x) + s ≡ (1 + n) * w + a + t
one_more n w a x s t is = omega arith

compared_weight : (names : List Entry) (x : Weighed) (xs : List Expr) (w : ℕ) → (compared_behind names x xs).at w ≡ length xs * w + x.at w + sum (map (λ y. weight_at names y w) xs)
compared_weight names x [] w = let h : x.at w ≡ 0 * w + x.at w + 0 = omega arith in h
compared_weight names x (y ∷ xs) w =
    compared_weight names (weighed_by Shared b.Add (is_constant names y) x (weighed names (weighing names y))) xs w
    ∙ one_more (length xs) w (x.at w) (weight_at names y w) (sum (map (λ z. weight_at names z w) xs)) _ (sum_cons (λ z. weight_at names z w) y xs)
    ∙ ap (λ (n : ℕ). n * w + x.at w + sum (map (λ z. weight_at names z w) (y ∷ xs))) (one-add (length xs))

pub comparison_is : (names : List Entry) (subject : Expr) (arms : List Arm) → own_weight (compared_behind names (weighed names (weighing names subject)) (arms_items arms)) ≡ comparison_weight names subject arms
comparison_is names subject arms =
    compared_weight names (weighed names (weighing names subject)) (arms_items arms) _
    ∙ ap (λ w. length (arms_items arms) * w + weight_at names subject w + sum (map (λ y. weight_at names y w) (arms_items arms)))
    (compared_width names (weighed names (weighing names subject)) (arms_items arms))

-- What is compared so far and the labels from this one on make what was compared at first and all make.
pub record LabelsTo (names : List Entry) (arms : List Arm) (i : ℕ) (begun now : Counted) : Type 0 where
  pub stands : arms_sound names arms ≡ true → (s : Weighed) → Stands begun s → (t : Weighed) × (Stands now t × (compared_behind names t (arms_items (drop i arms)) ≡ compared_behind names s (arms_items arms)))

pub labels_next : (names : List Entry) (arms : List Arm) (i : ℕ) (a : Arm) (begun now more : Counted) → i < length arms → a ≡ get_or arms i a →
    Compares names now (label_items a.label) more →
    LabelsTo names arms i begun now → LabelsTo names arms (i + 1) begun more
labels_next names arms i a begun now more h is law c = record {
  stands = λ sound s p.
      let inner : all_sound names (label_items a.label) ≡ true = first_of (all_sound names (label_items a.label)) (is_sound_stmt names a.body) (passes (is_sound_arm names) arms i a h is sound) in
      let before : (t : Weighed) × (Stands now t × (compared_behind names t (arms_items (drop i arms)) ≡ compared_behind names s (arms_items arms))) = c.stands sound s p in (
        compared_behind names before.0 (label_items a.label),
        (
          law inner before.0 before.1.0,
          sym (compared_more names before.0 (label_items a.label) (arms_items (drop (i + 1) arms)))
              ∙ sym (ap (λ (zs : List Arm). compared_behind names before.0 (arms_items zs)) (next_is arms i a h is)) ∙ before.1.1,
        ),
      );
}

pub labels_end : (names : List Entry) (arms : List Arm) (i : ℕ) (begun now : Counted) → length arms ≤ i → LabelsTo names arms i begun now →
    arms_sound names arms ≡ true → (s : Weighed) → Stands begun s → Stands now (compared_behind names s (arms_items arms))
labels_end names arms i begun now h c sound s p =
    let before : (t : Weighed) × (Stands now t × (compared_behind names t (arms_items (drop i arms)) ≡ compared_behind names s (arms_items arms))) = c.stands sound s p in
    subst (λ (t : Weighed). Stands now t) (sym (ap (λ (zs : List Arm). compared_behind names before.0 (arms_items zs)) (drop_all i arms h)) ∙ before.1.1) before.1.0

-- ---- statements

abbrev arm_weight : List Entry → Arm → ArmWeight
arm_weight names = fold-Arm (ℕ → ℕ) ArmWeight (stmt_weight_step names) (λ arm. record { label = arm.label; body = arm.body })

arm_is : (names : List Entry) (a : Arm) → arm_weight names a ≡ record { label = a.label; body = stmt_weight names a.body }
arm_is names a = fold-roll-Arm (ℕ → ℕ) ArmWeight (stmt_weight_step names) (λ arm. record { label = arm.label; body = arm.body }) (record { label = a.label; body = a.body })

abbrev arm_sound : List Entry → Arm → Bool
arm_sound names = fold-Arm Bool Bool (sound_stmt_step names) (sound_arm_step names)

arm_sound_is : (names : List Entry) (a : Arm) → arm_sound names a ≡ is_sound_arm names a
arm_sound_is names a = fold-roll-Arm Bool Bool (sound_stmt_step names) (sound_arm_step names) (record { label = a.label; body = a.body })

pub when_null : (names : List Entry) (x : Stmt) → x ≡ s.Null → (d : ℕ) → Same 0 (stmt_weight names x d)
when_null names x is d =
    same_path _ _ (sym (ap (λ (f : ℕ → ℕ). f d)
    (ap (stmt_weight names) (is ∙ sym s.rolls-Null) ∙ fold-roll-Stmt (ℕ → ℕ) ArmWeight (stmt_weight_step names) (λ arm. record { label = arm.label; body = arm.body }) o.Null)))

block_is : (names : List Entry) (body : List Stmt) (d : ℕ) → block_weight (map (stmt_weight names) body) d ≡ sum (map (λ x. stmt_weight names x d) body)
block_is names [] d = refl
block_is names (x ∷ xs) d = ap (λ (n : ℕ). stmt_weight names x d + n) (block_is names xs d) ∙ sym (sum_cons (λ y. stmt_weight names y d) x xs)

pub when_block : (names : List Entry) (x : Stmt) (body more : List Stmt) (depth r : ℕ) → x ≡ s.Block body → more ≡ body →
    (block_sound names more ≡ true → (d : ℕ) → Same depth d → Same r (sum (map (λ y. stmt_weight names y d) more))) → is_sound_stmt names x ≡ true → (d : ℕ) → Same depth d → Same r (stmt_weight names x d)
when_block names x body more depth r is p weighs sound d deep =
    let rolled = is ∙ ap (λ (ys : List Stmt). s.Block ys) (sym p) ∙ sym (s.rolls-Block more) in
    let inner : block_sound names more ≡ true =
    sym (list_all-map (λ (one : Bool). one) (is_sound_stmt names) more)
    ∙ sym (ap (is_sound_stmt names) rolled ∙ fold-roll-Stmt Bool Bool (sound_stmt_step names) (sound_arm_step names) (o.Block more)) ∙ sound in
    same_trans _ _ _ (weighs inner d deep)
    (same_path _ _ (sym (ap (λ (f : ℕ → ℕ). f d)
    (ap (stmt_weight names) rolled ∙ fold-roll-Stmt (ℕ → ℕ) ArmWeight (stmt_weight_step names) (λ arm. record { label = arm.label; body = arm.body }) (o.Block more))
    ∙ block_is names more d)))

pub when_if : (names : List Entry) (x a z : Stmt) (c : Expr) (depth inner k m r : ℕ) → x ≡ s.If c a → z ≡ a → (is_sound names c ≡ true → Same k (condition_weight names c)) →
    ((d : ℕ) → Same depth d → Same inner (d + 1)) → (is_sound_stmt names z ≡ true → (d : ℕ) → Same inner d → Same m (stmt_weight names z d)) → Adds k m r →
    is_sound_stmt names x ≡ true → (d : ℕ) → Same depth d → Same r (stmt_weight names x d)
when_if names x a z c depth inner k m r is p condition deeper weighs adds sound d deep =
    let rolled = is ∙ ap (λ (y : Stmt). s.If c y) (sym p) ∙ sym (s.rolls-If c z) in
    let all : (is_sound names c && is_sound_stmt names z) ≡ true =
    sym (ap (is_sound_stmt names) rolled ∙ fold-roll-Stmt Bool Bool (sound_stmt_step names) (sound_arm_step names) (o.If c z)) ∙ sound in
    same_trans _ _ _
    (adds _ _ (condition (first_of (is_sound names c) (is_sound_stmt names z) all)) (weighs (second_of (is_sound names c) (is_sound_stmt names z) all) (d + 1) (deeper d deep)))
    (same_path _ _ (sym (ap (λ (f : ℕ → ℕ). f d)
    (ap (stmt_weight names) rolled ∙ fold-roll-Stmt (ℕ → ℕ) ArmWeight (stmt_weight_step names) (λ arm. record { label = arm.label; body = arm.body }) (o.If c z)))))

pub when_if_else : (names : List Entry) (x a b y z : Stmt) (c : Expr) (depth inner k m n before r : ℕ) → x ≡ s.IfElse c a b → y ≡ a → z ≡ b → (is_sound names c ≡ true → Same k (condition_weight names c)) →
    ((d : ℕ) → Same depth d → Same inner (d + 1)) → (is_sound_stmt names y ≡ true → (d : ℕ) → Same inner d → Same m (stmt_weight names y d)) →
    (is_sound_stmt names z ≡ true → (d : ℕ) → Same inner d → Same n (stmt_weight names z d)) → Adds k m before → Adds before n r →
    is_sound_stmt names x ≡ true → (d : ℕ) → Same depth d → Same r (stmt_weight names x d)
when_if_else names x a b y z c depth inner k m n before r is p q condition deeper one other adds more sound d deep =
    let rolled = is ∙ ap (λ (w : Stmt). s.IfElse c w b) (sym p) ∙ ap (λ (w : Stmt). s.IfElse c y w) (sym q) ∙ sym (s.rolls-IfElse c y z) in
    let all : (is_sound names c && (is_sound_stmt names y && is_sound_stmt names z)) ≡ true =
    sym (ap (is_sound_stmt names) rolled ∙ fold-roll-Stmt Bool Bool (sound_stmt_step names) (sound_arm_step names) (o.IfElse c y z)) ∙ sound in
    let both : (is_sound_stmt names y && is_sound_stmt names z) ≡ true = second_of (is_sound names c) (is_sound_stmt names y && is_sound_stmt names z) all in
    same_trans _ _ _
    (more _ _ (adds _ _ (condition (first_of (is_sound names c) (is_sound_stmt names y && is_sound_stmt names z) all)) (one (first_of (is_sound_stmt names y) (is_sound_stmt names z) both) (d + 1) (deeper d deep)))
    (other (second_of (is_sound_stmt names y) (is_sound_stmt names z) both) (d + 1) (deeper d deep)))
    (same_path _ _ (sym (ap (λ (f : ℕ → ℕ). f d)
    (ap (stmt_weight names) rolled ∙ fold-roll-Stmt (ℕ → ℕ) ArmWeight (stmt_weight_step names) (λ arm. record { label = arm.label; body = arm.body }) (o.IfElse c y z)))))

labels_are : (names : List Entry) (arms : List Arm) → labels_in (map (arm_weight names) arms) ≡ arm_labels arms
labels_are names [] = refl
labels_are names (a ∷ arms) = ap (λ (w : ArmWeight). w.label ∷ labels_in (map (arm_weight names) arms)) (arm_is names a) ∙ ap (λ (ls : List Label). a.label ∷ ls) (labels_are names arms)

bodies_are : (names : List Entry) (arms : List Arm) (d : ℕ) → bodies_weight (map (arm_weight names) arms) d ≡ sum (map (λ (a : Arm). stmt_weight names a.body d) arms)
bodies_are names [] d = refl
bodies_are names (a ∷ arms) d =
    ap (λ (w : ArmWeight). w.body d + bodies_weight (map (arm_weight names) arms) d) (arm_is names a) ∙ ap (λ (n : ℕ). stmt_weight names a.body d + n) (bodies_are names arms d)
    ∙ sym (sum_cons (λ (x : Arm). stmt_weight names x.body d) a arms)

arms_sound_are : (names : List Entry) (arms : List Arm) → list_all (λ (one : Bool). one) (map (arm_sound names) arms) ≡ arms_sound names arms
arms_sound_are names [] = refl
arms_sound_are names (a ∷ arms) = ap (λ (b : Bool). b && list_all (λ (one : Bool). one) (map (arm_sound names) arms)) (arm_sound_is names a) ∙ ap (λ (b : Bool). is_sound_arm names a && b) (arms_sound_are names arms)

pub when_case : (names : List Entry) (x : Stmt) (kind : CaseKind) (subject : Expr) (arms more others : List Arm) (depth inner k m r : ℕ) → x ≡ s.Case kind subject arms → more ≡ arms → others ≡ arms →
    (is_sound names subject ≡ true → arms_sound names more ≡ true → Same k (comparison_weight names subject more)) → ((d : ℕ) → Same depth d → Same inner (d + 1)) →
    (arms_sound names others ≡ true → (d : ℕ) → Same inner d → Same m (sum (map (λ (a : Arm). stmt_weight names a.body d) others))) → Adds k m r →
    is_sound_stmt names x ≡ true → (d : ℕ) → Same depth d → Same r (stmt_weight names x d)
when_case names x kind subject arms more others depth inner k m r is p q compares deeper bodies adds sound d deep =
    let rolled = is ∙ sym (s.rolls-Case kind subject arms) in
    let all : (is_sound names subject && arms_sound names arms) ≡ true =
    ap (λ (b : Bool). is_sound names subject && b) (sym (arms_sound_are names arms))
    ∙ sym (ap (is_sound_stmt names) rolled ∙ fold-roll-Stmt Bool Bool (sound_stmt_step names) (sound_arm_step names) (o.Case kind subject arms)) ∙ sound in
    let arms_right : arms_sound names arms ≡ true = second_of (is_sound names subject) (arms_sound names arms) all in
    same_trans _ _ _
    (adds _ _ (compares (first_of (is_sound names subject) (arms_sound names arms) all) (ap (arms_sound names) p ∙ arms_right))
    (bodies (ap (arms_sound names) q ∙ arms_right) (d + 1) (deeper d deep)))
    (same_path _ _
    (ap (λ (zs : List Arm). comparison_weight names subject zs + sum (map (λ (a : Arm). stmt_weight names a.body (d + 1)) others)) p
    ∙ ap (λ (zs : List Arm). comparison_weight names subject arms + sum (map (λ (a : Arm). stmt_weight names a.body (d + 1)) zs)) q
    ∙ sym (ap (λ (f : ℕ → ℕ). f d)
    (ap (stmt_weight names) rolled ∙ fold-roll-Stmt (ℕ → ℕ) ArmWeight (stmt_weight_step names) (λ arm. record { label = arm.label; body = arm.body }) (o.Case kind subject arms))
    ∙ ap (λ (ls : List Label). case_weight names subject ls (comparison_of names [] subject ls).width + bodies_weight (map (arm_weight names) arms) (d + 1)) (labels_are names arms)
    ∙ ap (λ (n : ℕ). comparison_weight names subject arms + n) (bodies_are names arms (d + 1)))))

pub when_assign : (names : List Entry) (x : Stmt) (target other : Target) (kind : AssignKind) (value : Expr) (depth r : ℕ) → x ≡ s.Assign target kind value → other ≡ target →
    (is_sound_target names other ≡ true → is_sound names value ≡ true → (d : ℕ) → Same depth d →
    Same r (assign_weight names (target_weight names other) (target_of names [] other).width value d)) →
    is_sound_stmt names x ≡ true → (d : ℕ) → Same depth d → Same r (stmt_weight names x d)
when_assign names x target other kind value depth r is p weighs sound d deep =
    let rolled = is ∙ ap (λ (w : Target). s.Assign w kind value) (sym p) ∙ sym (s.rolls-Assign other kind value) in
    let all : (is_sound_target names other && is_sound names value) ≡ true =
    sym (ap (is_sound_stmt names) rolled ∙ fold-roll-Stmt Bool Bool (sound_stmt_step names) (sound_arm_step names) (o.Assign other kind value)) ∙ sound in
    same_trans _ _ _
    (weighs (first_of (is_sound_target names other) (is_sound names value) all) (second_of (is_sound_target names other) (is_sound names value) all) d deep)
    (same_path _ _ (sym (ap (λ (f : ℕ → ℕ). f d)
    (ap (stmt_weight names) rolled ∙ fold-roll-Stmt (ℕ → ℕ) ArmWeight (stmt_weight_step names) (λ arm. record { label = arm.label; body = arm.body }) (o.Assign other kind value)))))

-- ---- the loops over the statements of a block and over the bodies of arms

-- What is added up so far, however deep it stands.
pub record SumsIn {X : Type 0} (f : X → ℕ → ℕ) (test : X → Bool) (xs : List X) (i depth total : ℕ) : Type 0 where
  pub same : list_all test xs ≡ true → (d : ℕ) → Same depth d → Sums (λ (x : X). f x d) xs i total

pub next_in : {X : Type 0} (f : X → ℕ → ℕ) (test : X → Bool) (xs : List X) (i : ℕ) (x : X) (depth total one more : ℕ) → i < length xs → x ≡ get_or xs i x → Adds total one more →
    (test x ≡ true → (d : ℕ) → Same depth d → Same one (f x d)) → SumsIn f test xs i depth total → SumsIn f test xs (i + 1) depth more
next_in {X = X} f test xs i x depth total one more h is adds weighs s = record {
  same = λ sound d deep. sums_next (λ (y : X). f y d) xs i x total one more h is adds (weighs (passes test xs i x h is sound) d deep) (s.same sound d deep);
}

pub end_in : {X : Type 0} (f : X → ℕ → ℕ) (test : X → Bool) (xs : List X) (i depth total : ℕ) → length xs ≤ i → SumsIn f test xs i depth total →
    list_all test xs ≡ true → (d : ℕ) → Same depth d → Same total (sum (map (λ (x : X). f x d) xs))
end_in {X = X} f test xs i depth total h s sound d deep = sums_end (λ (x : X). f x d) xs i total h (s.same sound d deep)

-- ---- labels

pub of_items : (names : List Entry) (label : Label) (xs ys : List Expr) (before r : Counted) → label ≡ l.Items xs → ys ≡ xs → Compares names before ys r → Compares names before (label_items label) r
of_items names label xs ys before r is p h = subst (λ (zs : List Expr). Compares names before zs r) (p ∙ sym (ap label_items is)) h

pub of_default : (names : List Entry) (label : Label) (at : ℕ) (before : Counted) → label ≡ l.Default at → Compares names before (label_items label) before
of_default names label at before is = subst (λ (zs : List Expr). Compares names before zs before) (sym (ap label_items is)) (λ sound s p. p)
