-- How typed targets and statements keep to their widths, and items and arms to the width that they are compared at.
use Rattle.std.proofs.Common.{◌≡◌, ◌≤◌, ◌<◌, ◌+◌, ap, sym, subst, ◌∙◌, refl, ℕ, List, [], ◌∷◌, ◌++◌, map, max, Bool, true, false, arith}
use Rattle.std.specs.Prelude.{◌&&◌, ◌==◌, ◌-◌, nat_le, if◌then◌else◌}
use Rattle.std.specs.List.{list_all}
use Rattle.std.proofs.Math.Path.{fun_ext}
use Rattle.std.proofs.lemmas.Bool.{leb-true, le-leb, eqb-true, eq-eqb}
use Rattle.std.proofs.lemmas.List.Folds.{list_all-map}
use Rattle.v_meaning.specs.Senses.{Sense}
use Rattle.v_meaning.specs.Names.{span}
use Rattle.v_meaning.specs.Statements.{Comparison, greatest_width}
use Rattle.v_meaning.specs.declared.names.Kind.{Kind}
use Rattle.v_meaning.specs.declared.names.Kind.TheVariants.{Parameter, Clock, Input, Net, Combinational, Variable, Memory}
use Rattle.v_meaning.specs.declared.names.Entry.{Entry}
use Rattle.v_core.specs.declared.typed.Typed.{Typed}
use Rattle.v_core.specs.declared.open.Open.{Open}
use Rattle.v_core.specs.declared.statement.TypedTarget.{TypedTarget}
use Rattle.v_core.specs.declared.statement.TypedTarget.TheVariants as t
use Rattle.v_core.specs.declared.statement.TypedTarget.TheOpen as p
use Rattle.v_core.specs.declared.statement.TypedTarget.TheFolds.{fold-roll-TypedTarget}
use Rattle.v_core.specs.declared.statement.TypedLabel.{TypedLabel}
use Rattle.v_core.specs.declared.statement.TypedArm.{TypedArm}
use Rattle.v_core.specs.declared.statement.TypedStmt.{TypedStmt}
use Rattle.v_core.specs.declared.statement.TypedStmt.TheVariants as s
use Rattle.v_core.specs.declared.statement.TypedStmt.TheOpen as o
use Rattle.v_core.specs.declared.statement.TypedStmt.TheFolds.{fold-TypedArm, fold-roll-TypedStmt, fold-roll-TypedArm}
use Rattle.v_core.specs.Values.{entry_at}
use Rattle.v_core.specs.Bodies.{sense_in}
use Rattle.v_core.specs.Statements.{items_in}
use Rattle.v_core.specs.Formed.{Formed, FormedIn, formed, has, is_width, selected_width, within_words}
use Rattle.v_core.specs.FormedCores.{KeptIn, KeptArm, formed_arm_step, formed_stmt_step, is_formed_stmt, target_form, target_form_step, target_parts}
use Rattle.v_core.specs.OpenForms.{OpenFormed, body_form}
use Rattle.v_statements.specs.declared.items.Common.{Common}
use Rattle.v_statements.specs.declared.items.OpenItem.{OpenItem}
use Rattle.v_statements.specs.declared.cases.OpenArm.{OpenArm}
use Rattle.v_statements.specs.Cases.{comparison_among, comparison_in, open_arm, open_item, open_items, senses_among, senses_of}
use Rattle.v_statements.specs.Forms.{ArmForm, ArmFormed, Each, ItemFormed, arm_form, is_formed_arm, item_form, open_arm_form, open_item_form}
use Rattle.v_statements.specs.Measured.{is_memory}

pub both : {a b : Bool} → a ≡ true → b ≡ true → (a && b) ≡ true
both p q = λ i. p i && q i

first : (a b : Bool) → (a && b) ≡ true → a ≡ true
first true b h = refl
first false b h = absurd (cc h)

second : (a b : Bool) → (a && b) ≡ true → b ≡ true
second true b h = h
second false b h = absurd (cc h)

pub is_word : (w : ℕ) → 1 ≤ w → w ≤ 128 → is_width w ≡ true
is_word w p q = both (le-leb 1 w p) (le-leb w 128 q)

pub few : (w : ℕ) → is_width w ≡ true → w ≤ 128
few w h = leb-true w 128 (second (nat_le 1 w) (nat_le w 128) h)

pub kept_of : (w : ℕ) (x : Formed) → has w x ≡ true → x.kept ≡ true
kept_of w x h = second (x.width == w) x.kept h

pub width_of : (w : ℕ) (x : Formed) → has w x ≡ true → x.width ≡ w
width_of w x h = eqb-true x.width w (first (x.width == w) x.kept h)

-- ---- made targets and statements

pub form_concat : (parts : List TypedTarget) → target_form (t.Concat parts) ≡ (λ names. within_words (target_parts (map target_form parts) names))
form_concat parts = ap target_form (sym (t.rolls-Concat parts)) ∙ fold-roll-TypedTarget FormedIn target_form_step (p.Concat parts)

pub form_block : (body : List TypedStmt) → is_formed_stmt (s.Block body) ≡ (λ names. list_all (λ (x : TypedStmt). is_formed_stmt x names) body)
form_block body =
    ap is_formed_stmt (sym (s.rolls-Block body)) ∙ fold-roll-TypedStmt KeptIn KeptArm formed_stmt_step formed_arm_step (o.Block body)
    ∙ fun_ext (λ names. list_all-map (λ (one : KeptIn). one names) is_formed_stmt body)

abbrev kept_arm : TypedArm → KeptArm
kept_arm = fold-TypedArm KeptIn KeptArm formed_stmt_step formed_arm_step

arms_kept : (w : ℕ) (names : List Entry) (arms : List TypedArm) → list_all (λ (arm : KeptArm). arm w names) (map kept_arm arms) ≡ list_all (is_formed_arm w names) arms
arms_kept w names [] = refl
arms_kept w names (a ∷ arms) = λ i.
    (fold-roll-TypedArm KeptIn KeptArm formed_stmt_step formed_arm_step (record { label = a.label; body = a.body })) i w names && arms_kept w names arms i

pub form_case : (subject : Typed) (arms : List TypedArm) →
    is_formed_stmt (s.Case subject arms) ≡ (λ names. (formed subject names).kept && list_all (is_formed_arm (formed subject names).width names) arms)
form_case subject arms =
    ap is_formed_stmt (sym (s.rolls-Case subject arms)) ∙ fold-roll-TypedStmt KeptIn KeptArm formed_stmt_step formed_arm_step (o.Case subject arms)
    ∙ fun_ext (λ names. ap (λ (b : Bool). (formed subject names).kept && b) (arms_kept (formed subject names).width names arms))

-- ---- targets

pub part_keeps : (names : List Entry) (e : Entry) (made : TypedTarget) (n low width : ℕ) →
    target_form made ≡ (λ names. record { width = width; kept = is_width width && nat_le (low + width) (entry_at names n).width }) → entry_at names n ≡ e →
    is_width width ≡ true → low + width ≤ e.width → has width (target_form made names) ≡ true
part_keeps names e made n low width is entry word fit =
    ap (λ (f : FormedIn). has width (f names)) is
    ∙ both (eq-eqb width width refl) (both word (le-leb (low + width) (entry_at names n).width (omega (arith, ap (λ (x : Entry). x.width) entry, fit))))

pub part_fits : (e : Entry) (i j low w kw : ℕ) → w ≡ span i j → low ≡ j - e.low → kw ≡ e.width → kw ≤ 128 → e.low ≤ j → j ≤ i → i < e.low + e.width →
    (is_width w ≡ true) × (low + w ≤ e.width)
part_fits e i j low w kw p q width top above descends within =
    (is_word w (omega (arith, p, descends)) (omega (arith, p, width, top, above, within)), omega (arith, p, q, above, descends, within))

selected_bits : (kind : Kind) (w : ℕ) → (if is_memory kind then w else 1) ≡ selected_width kind w
selected_bits (Parameter value) w = refl
selected_bits Clock w = refl
selected_bits (Input k) w = refl
selected_bits (Net k) w = refl
selected_bits (Combinational k) w = refl
selected_bits (Variable k) w = refl
selected_bits (Memory k low count) w = refl

selected_word : (kind : Kind) (w : ℕ) → is_width w ≡ true → is_width (if is_memory kind then w else 1) ≡ true
selected_word (Parameter value) w h = refl
selected_word Clock w h = refl
selected_word (Input k) w h = refl
selected_word (Net k) w h = refl
selected_word (Combinational k) w h = refl
selected_word (Variable k) w h = refl
selected_word (Memory k low count) w h = h

pub select_word : (bits kw : ℕ) (kind : Kind) → bits ≡ (if is_memory kind then kw else 1) → is_width kw ≡ true → is_width bits ≡ true
select_word bits kw kind p h = ap is_width p ∙ selected_word kind kw h

pub select_keeps : (names : List Entry) (e : Entry) (made : TypedTarget) (index : Open) (x : Typed) (n bits kw : ℕ) (kind : Kind) →
    target_form made ≡ (λ names. record {
      width = bits;
      kept = is_width (entry_at names n).width && bits == selected_width (entry_at names n).kind (entry_at names n).width && has index.width (formed x names);
    }) →
    has index.width (formed x names) ≡ true → entry_at names n ≡ e → bits ≡ (if is_memory kind then kw else 1) → kind ≡ e.kind → kw ≡ e.width → is_width kw ≡ true →
    has bits (target_form made names) ≡ true
select_keeps names e made index x n bits kw kind is h entry measure of_kind of_width word =
    let same : bits ≡ selected_width (entry_at names n).kind (entry_at names n).width =
    measure ∙ (λ i. if is_memory (of_kind i) then of_width i else 1) ∙ selected_bits e.kind e.width ∙ ap (λ (f : Entry). selected_width f.kind f.width) (sym entry) in
    ap (λ (f : FormedIn). has bits (f names)) is
    ∙ both (eq-eqb bits bits refl)
    (both (both (ap is_width (ap (λ (f : Entry). f.width) entry ∙ sym of_width) ∙ word) (eq-eqb bits _ same)) h)

has_push : (typed : List TypedTarget) (x : TypedTarget) (names : List Entry) (w v : ℕ) → has w (target_parts (map target_form typed) names) ≡ true → has v (target_form x names) ≡ true →
    has (w + v) (target_parts (map target_form (typed ++ x ∷ [])) names) ≡ true
has_push typed x names w v h k =
    both (eq-eqb _ (w + v) (sum typed ∙ (λ i. width_of w _ h i + width_of v _ k i))) (all typed (kept_of w _ h))
  where
    sum : (typed : List TypedTarget) → (target_parts (map target_form (typed ++ x ∷ [])) names).width ≡ (target_parts (map target_form typed) names).width + (target_form x names).width
    sum [] = omega arith
    sum (y ∷ ys) = let more = sum ys in omega (arith, more)

    all : (typed : List TypedTarget) → (target_parts (map target_form typed) names).kept ≡ true → (target_parts (map target_form (typed ++ x ∷ [])) names).kept ≡ true
    all [] q = both (kept_of v (target_form x names) k) refl
    all (y ∷ ys) q =
        both (first (target_form y names).kept (target_parts (map target_form ys) names).kept q) (all ys (second (target_form y names).kept (target_parts (map target_form ys) names).kept q))

pub next_keeps : (names : List Entry) (typed more : List TypedTarget) (x : TypedTarget) (w v wider : ℕ) → more ≡ typed ++ x ∷ [] → wider ≡ w + v → has v (target_form x names) ≡ true →
    has w (target_parts (map target_form typed) names) ≡ true → has wider (target_parts (map target_form more) names) ≡ true
next_keeps names typed more x w v wider p q h before =
    (λ i. has (q i) (target_parts (map target_form (p i)) names)) ∙ has_push typed x names w v before h

pub joined_keeps : (names : List Entry) (typed : List TypedTarget) (made : TypedTarget) (w whole : ℕ) →
    target_form made ≡ (λ names. within_words (target_parts (map target_form typed) names)) → w ≡ whole → 1 ≤ whole → whole ≤ 128 →
    has w (target_parts (map target_form typed) names) ≡ true → has w (target_form made names) ≡ true
joined_keeps names typed made w whole is same some top h =
    let width = width_of w (target_parts (map target_form typed) names) h in
    ap (λ (f : FormedIn). has w (f names)) is
    ∙ both (eq-eqb _ w width) (both (ap is_width width ∙ is_word w (omega (arith, same, some)) (omega (arith, same, top))) (kept_of w (target_parts (map target_form typed) names) h))

-- ---- lists

pub each_push : {X : Type 0} (P : X → Type 0) (made more : List X) (x : X) → more ≡ made ++ x ∷ [] → P x → Each P made → Each P more
each_push P made more x p h before = subst (Each P) (sym p) (push made before)
  where
    push : (xs : List _) → Each P xs → Each P (xs ++ x ∷ [])
    push [] q = (h, tt)
    push (y ∷ ys) q = (q.0, push ys q.1)

pub all_push : {X : Type 0} (test : X → Bool) (made more : List X) (x : X) → more ≡ made ++ x ∷ [] → test x ≡ true → list_all test made ≡ true → list_all test more ≡ true
all_push test made more x p h before = ap (list_all test) p ∙ push made before
  where
    push : (xs : List _) → list_all test xs ≡ true → list_all test (xs ++ x ∷ []) ≡ true
    push [] q = both h refl
    push (y ∷ ys) q = both (first (test y) (list_all test ys) q) (push ys (second (test y) (list_all test ys) q))

-- ---- cases

pub item_has_form : (names : List Entry) (by : Common) (item : OpenItem) (value : Typed) (mask : ℕ) → formed value ≡ body_form item.value.body by.width by.signed →
    item_form names (record { ignored = mask; value = value }) ≡ open_item_form names by item
item_has_form names by item value mask p = ap (λ (f : FormedIn). f names) p

pub arm_has_form : (names : List Entry) (by : Common) (arm : OpenArm) (label : TypedLabel) →
    map (item_form names) (items_in label) ≡ map (open_item_form names by) (open_items arm.label) →
    arm_form names (record { label = label; body = arm.body }) ≡ open_arm_form names by arm
arm_has_form names by arm label p = λ i. record { items = p i; body = is_formed_stmt arm.body names }

grows : (xs : List Sense) (w : ℕ) → w ≤ greatest_width xs w
grows [] w = omega arith
grows (x ∷ xs) w = let more = grows xs (max w x.width) in omega (arith, more)

greatest_append : (xs ys : List Sense) (w : ℕ) → greatest_width (xs ++ ys) w ≡ greatest_width ys (greatest_width xs w)
greatest_append [] ys w = refl
greatest_append (x ∷ xs) ys w = greatest_append xs ys (max w x.width)

items_keep : (names : List Entry) (by : Common) (items : List OpenItem) (more : List Sense) (w : ℕ) → Each (ItemFormed names) items →
    greatest_width (senses_of (map (open_item names) items) ++ more) w ≤ by.width → by.width ≤ 128 → list_all (has by.width) (map (open_item_form names by) items) ≡ true
items_keep names by [] more w h le top = refl
items_keep names by (x ∷ xs) more w h le top =
    let under = grows (senses_of (map (open_item names) xs) ++ more) (max w x.value.width) in
    both (h.0.at by.width by.signed (omega (arith, under, le)) top) (items_keep names by xs more (max w x.value.width) h.1 le top)

-- an arm whose items have this width
abbrev has_arm : ℕ → ArmForm → Bool
has_arm w a = list_all (has w) a.items && a.body

arms_keep : (names : List Entry) (by : Common) (arms : List OpenArm) (w : ℕ) → Each (ArmFormed names) arms →
    greatest_width (senses_among (map (open_arm names) arms)) w ≤ by.width → by.width ≤ 128 → list_all (has_arm by.width) (map (open_arm_form names by) arms) ≡ true
arms_keep names by [] w h le top = refl
arms_keep names by (a ∷ arms) w h le top =
    let split = greatest_append (senses_of (map (open_item names) (open_items a.label))) (senses_among (map (open_arm names) arms)) w in
    both (both (items_keep names by (open_items a.label) (senses_among (map (open_arm names) arms)) w h.0.items le top) h.0.body)
    (arms_keep names by arms (greatest_width (senses_of (map (open_item names) (open_items a.label))) w) h.1 (omega (arith, split, le)) top)

arms_have : (w : ℕ) (names : List Entry) (arms : List TypedArm) → list_all (is_formed_arm w names) arms ≡ list_all (has_arm w) (map (arm_form names) arms)
arms_have w names [] = refl
arms_have w names (a ∷ arms) = λ i.
    ((sym (list_all-map (has w) (item_form names) (items_in a.label))) i && is_formed_stmt a.body names) && arms_have w names arms i

pub compared_keeps : (names : List Entry) (t : TypedStmt) (subject : Open) (typed : Typed) (arms slice : List OpenArm) (fixed : List TypedArm) (by : Common) →
    is_formed_stmt t ≡ (λ names. (formed typed names).kept && list_all (is_formed_arm (formed typed names).width names) fixed) →
    formed typed ≡ body_form subject.body by.width by.signed →
    map (arm_form names) fixed ≡ map (open_arm_form names by) arms →
    comparison_in by ≡ comparison_among (sense_in subject names) (map (open_arm names) slice) → slice ≡ arms → by.width ≤ 128 →
    OpenFormed subject names → Each (ArmFormed names) arms → is_formed_stmt t names ≡ true
compared_keeps names t subject typed arms slice fixed by is p q r same top h each =
    let greatest : by.width ≡ greatest_width (senses_among (map (open_arm names) arms)) subject.width =
    ap (λ (c : Comparison). c.width) (r ∙ ap (λ (ys : List OpenArm). comparison_among (sense_in subject names) (map (open_arm names) ys)) same) in
    let under = grows (senses_among (map (open_arm names) arms)) subject.width in
    let whole : has by.width (formed typed names) ≡ true =
    ap (λ (f : FormedIn). has by.width (f names)) p ∙ h.at by.width by.signed (omega (arith, greatest, under)) top in
    ap (λ (f : KeptIn). f names) is
    ∙ both (kept_of by.width (formed typed names) whole)
    (ap (λ (w : ℕ). list_all (is_formed_arm w names) fixed) (width_of by.width (formed typed names) whole) ∙ arms_have by.width names fixed ∙ ap (list_all (has_arm by.width)) q
    ∙ arms_keep names by arms subject.width each (omega (arith, greatest)) top)

-- ---- assignments

pub value_keeps : (names : List Entry) (x : Open) (t : Typed) (w v : ℕ) → formed t ≡ body_form x.body w x.signed → w ≡ max v x.width → v ≤ 128 → OpenFormed x names →
    (formed t names).kept ≡ true
value_keeps names x t w v p is top h =
    let word : x.width ≤ 128 = few x.width h.word in
    kept_of w (formed t names) (ap (λ (f : FormedIn). has w (f names)) p ∙ h.at w x.signed (omega (arith, is)) (omega (arith, is, top, word)))
