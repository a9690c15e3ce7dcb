-- What items and arms mean that are open or fixed, and the width and sign that they have together.
use Rattle.std.proofs.Common.{◌≡◌, ◌<◌, ◌≤◌, ◌+◌, ap, sym, ◌∙◌, refl, ℕ, length, get_or, drop, List, [], ◌∷◌, map, max}
use Rattle.std.specs.Prelude.{◌&&◌}
use Rattle.std.proofs.lemmas.List.{drop_all}
use Rattle.v_syntax.specs.declared.stmt.Arm.{Arm}
use Rattle.v_syntax.specs.declared.stmt.CaseKind.{CaseKind}
use Rattle.v_meaning.specs.declared.names.Entry.{Entry}
use Rattle.v_meaning.specs.Statements.{Comparison, label_items, acts_of}
use Rattle.v_core.specs.declared.typed.Typed.{Typed}
use Rattle.v_core.specs.declared.open.Open.{Open}
use Rattle.v_core.specs.declared.statement.TypedArm.{TypedArm}
use Rattle.v_core.specs.declared.statement.TypedLabel.{TypedLabel}
use Rattle.v_core.specs.declared.statement.TypedStmt.{TypedStmt}
use Rattle.v_core.specs.Values.{typed_value}
use Rattle.v_core.specs.Bodies.{body_value, sense_in}
use Rattle.v_core.specs.Statements.{ActsIn, items_in, acts_in}
use Rattle.v_statements.specs.declared.items.Common.{Common}
use Rattle.v_statements.specs.declared.items.OpenItem.{OpenItem}
use Rattle.v_statements.specs.declared.items.OpenLabel.{OpenLabel}
use Rattle.v_statements.specs.declared.items.OpenLabel.TheVariants as o
use Rattle.v_statements.specs.declared.cases.OpenArm.{OpenArm}
use Rattle.v_statements.specs.Cases.{item_at, arm_at, senses_of, senses_among, comparison_behind, comparison_among, chosen_acts, compared_acts, case_of, comparison_in, is_default, source_item, source_arm, open_item, open_items, is_open_default, open_arm, typed_item, is_typed_default, typed_arm}
use Rattle.v_statements.proofs.Turns.{next_is}
use Rattle.v_statements.proofs.CaseLaws.{behind_append}

-- ---- the width and sign of items together

pub item_behind : (names : List Entry) (items : List OpenItem) (i : ℕ) (x : OpenItem) (by more : Common) (whole : Comparison) → i < length items → x ≡ get_or items i x →
    more.width ≡ max by.width x.value.width → more.signed ≡ (by.signed && x.value.signed) →
    comparison_behind (comparison_in by) (senses_of (map (open_item names) (drop i items))) ≡ whole →
    comparison_behind (comparison_in more) (senses_of (map (open_item names) (drop (i + 1) items))) ≡ whole
item_behind names items i x by more whole h is p q before =
    (λ j. comparison_behind (record { width = p j; signed = q j }) (senses_of (map (open_item names) (drop (i + 1) items))))
    ∙ sym (ap (λ (r : List OpenItem). comparison_behind (comparison_in by) (senses_of (map (open_item names) r))) (next_is items i x h is)) ∙ before

pub arm_behind : (names : List Entry) (arms : List OpenArm) (i : ℕ) (a : OpenArm) (by more : Common) (whole : Comparison) → i < length arms → a ≡ get_or arms i a →
    comparison_in more ≡ comparison_behind (comparison_in by) (senses_of (map (open_item names) (open_items a.label))) →
    comparison_behind (comparison_in by) (senses_among (map (open_arm names) (drop i arms))) ≡ whole →
    comparison_behind (comparison_in more) (senses_among (map (open_arm names) (drop (i + 1) arms))) ≡ whole
arm_behind names arms i a by more whole h is p before =
    ap (λ (c : Comparison). comparison_behind c (senses_among (map (open_arm names) (drop (i + 1) arms)))) p
    ∙ sym (behind_append (comparison_in by) (senses_of (map (open_item names) (open_items a.label))) (senses_among (map (open_arm names) (drop (i + 1) arms))))
    ∙ sym (ap (λ (r : List OpenArm). comparison_behind (comparison_in by) (senses_among (map (open_arm names) r))) (next_is arms i a h is)) ∙ before

pub items_behind : (names : List Entry) (items : List OpenItem) (i : ℕ) (by : Common) (whole : Comparison) → length items ≤ i →
    comparison_behind (comparison_in by) (senses_of (map (open_item names) (drop i items))) ≡ whole → comparison_in by ≡ whole
items_behind names items i by whole h before =
    sym (ap (λ (r : List OpenItem). comparison_behind (comparison_in by) (senses_of (map (open_item names) r))) (drop_all i items h)) ∙ before

pub arms_behind : (names : List Entry) (arms : List OpenArm) (i : ℕ) (by : Common) (whole : Comparison) → length arms ≤ i →
    comparison_behind (comparison_in by) (senses_among (map (open_arm names) (drop i arms))) ≡ whole → comparison_in by ≡ whole
arms_behind names arms i by whole h before =
    sym (ap (λ (r : List OpenArm). comparison_behind (comparison_in by) (senses_among (map (open_arm names) r))) (drop_all i arms h)) ∙ before

pub label_behind : (names : List Entry) (label : OpenLabel) (items slice : List OpenItem) (by more : Common) → label ≡ o.Items items → slice ≡ items →
    comparison_in more ≡ comparison_behind (comparison_in by) (senses_of (map (open_item names) slice)) →
    comparison_in more ≡ comparison_behind (comparison_in by) (senses_of (map (open_item names) (open_items label)))
label_behind names label items slice by more is p q =
    q ∙ ap (λ (ys : List OpenItem). comparison_behind (comparison_in by) (senses_of (map (open_item names) ys))) (p ∙ sym (ap open_items is))

pub default_behind : (names : List Entry) (label : OpenLabel) (by : Common) → label ≡ o.Default →
    comparison_in by ≡ comparison_behind (comparison_in by) (senses_of (map (open_item names) (open_items label)))
default_behind names label by is = ap (λ (ys : List OpenItem). comparison_behind (comparison_in by) (senses_of (map (open_item names) ys))) (sym (ap open_items is))

-- ---- a whole case

pub arm_fixed : (names : List Entry) (arm : OpenArm) (by : Common) (label : TypedLabel) →
    map (typed_item names) (items_in label) ≡ map (item_at (comparison_in by)) (map (open_item names) (open_items arm.label)) → is_typed_default label ≡ is_open_default arm.label →
    typed_arm names (record { label = label; body = arm.body }) ≡ arm_at (comparison_in by) (open_arm names arm)
arm_fixed names arm by label p q = λ i. record { items = p i; is_default = q i; acts = acts_in arm.body names }

pub arm_opened : (names : List Entry) (sites : List ℕ) (kind : CaseKind) (arm : Arm) (label : OpenLabel) (body : TypedStmt) →
    map (open_item names) (open_items label) ≡ map (source_item names sites kind) (label_items arm.label) → is_open_default label ≡ is_default arm.label →
    acts_in body names ≡ acts_of names sites arm.body → open_arm names (record { label = label; body = body }) ≡ source_arm names sites kind arm
arm_opened names sites kind arm label body p q r = λ i. record { items = p i; is_default = q i; acts = r i }

pub twice : {A B C : Type 0} (f : B → C) (g : A → B) (xs : List A) → map f (map g xs) ≡ map (λ x. f (g x)) xs
twice f g [] = refl
twice f g (x ∷ xs) = ap (λ r. f (g x) ∷ r) (twice f g xs)

pub compared_is : (names : List Entry) (t : TypedStmt) (subject : Open) (typed : Typed) (arms slice : List OpenArm) (fixed : List TypedArm) (by : Common) →
    acts_in t ≡ (λ names. chosen_acts (typed_value typed names) (map (typed_arm names) fixed)) →
    typed_value typed ≡ body_value subject.body by.width by.signed →
    map (typed_arm names) fixed ≡ map (arm_at (comparison_in by)) (map (open_arm names) arms) →
    comparison_in by ≡ comparison_among (sense_in subject names) (map (open_arm names) slice) → slice ≡ arms →
    acts_in t names ≡ case_of (sense_in subject names) (map (open_arm names) arms)
compared_is names t subject typed arms slice fixed by is p q r same =
    ap (λ (f : ActsIn). f names) is
    ∙ (λ i. chosen_acts (p i names) (q i))
    ∙ ap (λ (c : Comparison). compared_acts c (sense_in subject names) (map (open_arm names) arms))
    (r ∙ ap (λ (ys : List OpenArm). comparison_among (sense_in subject names) (map (open_arm names) ys)) same)
