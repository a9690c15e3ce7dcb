-- What blocks and cases do, and what their parts keep.
use Rattle.std.proofs.Common.{◌≡◌, ◌≤◌, ◌<◌, ◌+◌, ap, sym, ◌∙◌, refl, arith, ℕ, zero, suc, length, get_or, drop, List, [], ◌∷◌, map, Bool, true, ◌&&◌}
use Rattle.std.specs.Prelude.{◌==◌, if◌then◌else◌, Option, slice_get}
use Rattle.std.proofs.lemmas.Option.{slice_get-get_or}
use Rattle.std.specs.List.{list_all, list_any}
use Rattle.std.proofs.lemmas.List.Folds.{list_all-map}
use Rattle.v_meaning.specs.Designs.{total}
use Rattle.v_meaning.specs.Acts.{Acts, End, sequence}
use Rattle.v_meaning.specs.declared.names.Entry.{Entry}
use Rattle.v_core.specs.SitedCores.{are_sited_items, is_sited_stmt, sited_arm_step, sited_stmt_step}
use Rattle.v_core.specs.declared.typed.Typed.{Typed}
use Rattle.v_core.specs.declared.statement.TypedItem.{TypedItem}
use Rattle.v_core.specs.declared.statement.TypedLabel.{TypedLabel}
use Rattle.v_core.specs.declared.statement.TypedLabel.TheVariants as l
use Rattle.v_core.specs.declared.statement.TypedArm.{TypedArm}
use Rattle.v_core.specs.declared.statement.TypedStmt.{TypedStmt}
use Rattle.v_core.specs.declared.statement.TypedStmt.TheVariants as e
use Rattle.v_core.specs.Values.{typed_value}
use Rattle.v_core.specs.Formed.{formed, has}
use Rattle.v_core.specs.FormedCores.{KeptIn, KeptArm, are_formed_items, formed_arm_step, formed_stmt_step, is_formed_stmt}
use Rattle.v_core.specs.Sited.{SitedIn, is_sited}
use Rattle.v_core.specs.Statements.{ActsIn, acts_in, acts_step, all_acts, arm_in_step, default_among, default_in, is_met_in, items_in, taken_in}
use Rattle.v_machine.specs.Cases.{are_compared, are_kept_arms}
use Rattle.v_machine.specs.Executed.{acts_of_arm, all_acts_in, arm_count_step, arm_counts, arms_in, write_count, write_count_step, write_counts}
use Rattle.v_meaning.specs.Views.{View}
use Rattle.v_order.specs.Counting.{steps_of}
use Rattle.v_order.specs.Stepping.{Stepping, finished}
use Rattle.v_machine.proofs.Layers.{at_block, at_case}
use Rattle.v_machine.proofs.Lists.{first_of, second_of, both_of, one_at, next_at}

-- ---- blocks

acts_map : (all : List TypedStmt) (names : List Entry) → all_acts (map acts_in all) names ≡ all_acts_in all names
acts_map [] names = refl
acts_map (x ∷ xs) names = ap (λ (r : List Acts). acts_in x names ∷ r) (acts_map xs names)

pub block_acts : (x : TypedStmt) (body more : List TypedStmt) (names : List Entry) → x ≡ e.Block body → more ≡ body → acts_in x names ≡ sequence (all_acts_in more names)
block_acts x body more names is p = ap (λ (f : ActsIn). f names) (at_block acts_step arm_in_step x body more is p) ∙ ap sequence (acts_map more names)

pub block_formed : (x : TypedStmt) (body more : List TypedStmt) (names : List Entry) → x ≡ e.Block body → more ≡ body → is_formed_stmt x names ≡ true →
    list_all (λ (y : TypedStmt). is_formed_stmt y names) more ≡ true
block_formed x body more names is p h =
    sym (ap (λ (f : KeptIn). f names) (at_block formed_stmt_step formed_arm_step x body more is p) ∙ list_all-map (λ (f : KeptIn). f names) is_formed_stmt more) ∙ h

pub block_sited : (x : TypedStmt) (body more : List TypedStmt) (names : List Entry) (sites : List ℕ) → x ≡ e.Block body → more ≡ body → is_sited_stmt x names sites ≡ true →
    list_all (λ (y : TypedStmt). is_sited_stmt y names sites) more ≡ true
block_sited x body more names sites is p h =
    sym (ap (λ (f : SitedIn). f names sites) (at_block sited_stmt_step sited_arm_step x body more is p) ∙ list_all-map (λ (f : SitedIn). f names sites) is_sited_stmt more) ∙ h

counts_map : (all : List TypedStmt) → total (map write_count all) ≡ write_counts all
counts_map [] = refl
counts_map (x ∷ xs) = ap (λ (n : ℕ). write_count x + n) (counts_map xs)

pub block_count : (x : TypedStmt) (body more : List TypedStmt) → x ≡ e.Block body → more ≡ body → write_count x ≡ write_counts more
block_count x body more is p = at_block write_count_step arm_count_step x body more is p ∙ counts_map more

-- ---- cases

pub case_acts : (x : TypedStmt) (subject : Typed) (arms more : List TypedArm) (names : List Entry) (s : Stepping) (word : ℕ) → x ≡ e.Case subject arms → more ≡ arms →
    word ≡ typed_value subject names s.view →
    finished (acts_in x names) s ≡ finished (taken_in (is_met_in names s.view word) (arms_in more) names (default_among (arms_in more) names)) s
case_acts x subject arms more names s word is p q =
    ap (λ (f : ActsIn). finished (f names) s) (at_case acts_step arm_in_step x subject arms more is p)
    ∙ sym (ap (λ (n : ℕ). finished (taken_in (is_met_in names s.view n) (arms_in more) names (default_among (arms_in more) names)) s) q)

pub case_steps : (x : TypedStmt) (subject : Typed) (arms more : List TypedArm) (names : List Entry) (v : View) (word : ℕ) → x ≡ e.Case subject arms → more ≡ arms →
    word ≡ typed_value subject names v →
    steps_of (acts_in x names) v ≡ 1 + steps_of (taken_in (is_met_in names v word) (arms_in more) names (default_among (arms_in more) names)) v
case_steps x subject arms more names v word is p q =
    let taken : ℕ → ℕ = λ n. steps_of (taken_in (is_met_in names v n) (arms_in more) names (default_among (arms_in more) names)) v in
    omega (arith, ap (λ (f : ActsIn). steps_of (f names) v) (at_case acts_step arm_in_step x subject arms more is p), ap taken q)

abbrev formed_arm : ℕ → List Entry → TypedArm → Bool
formed_arm width names a = are_formed_items width (items_in a.label) names && is_formed_stmt a.body names

abbrev sited_arm : List Entry → List ℕ → TypedArm → Bool
sited_arm names sites a = are_sited_items (items_in a.label) names sites && is_sited_stmt a.body names sites

abbrev form_of_arm : TypedArm → KeptArm
form_of_arm a = formed_arm_step (record { label = a.label; body = is_formed_stmt a.body })

abbrev sites_of_arm : TypedArm → SitedIn
sites_of_arm a = sited_arm_step (record { label = a.label; body = is_sited_stmt a.body })

case_formed : (x : TypedStmt) (subject : Typed) (arms more : List TypedArm) (names : List Entry) → x ≡ e.Case subject arms → more ≡ arms → is_formed_stmt x names ≡ true →
    list_all (formed_arm (formed subject names).width names) more ≡ true
case_formed x subject arms more names is p h =
    let w : ℕ = (formed subject names).width in
    sym (list_all-map (λ (f : KeptArm). f w names) form_of_arm more)
    ∙ second_of (formed subject names).kept (list_all (λ (f : KeptArm). f w names) (map form_of_arm more))
    (sym (ap (λ (f : KeptIn). f names) (at_case formed_stmt_step formed_arm_step x subject arms more is p)) ∙ h)

case_sited : (x : TypedStmt) (subject : Typed) (arms more : List TypedArm) (names : List Entry) (sites : List ℕ) → x ≡ e.Case subject arms → more ≡ arms →
    is_sited_stmt x names sites ≡ true → list_all (sited_arm names sites) more ≡ true
case_sited x subject arms more names sites is p h =
    sym (list_all-map (λ (f : SitedIn). f names sites) sites_of_arm more)
    ∙ second_of (is_sited subject names sites) (list_all (λ (f : SitedIn). f names sites) (map sites_of_arm more))
    (sym (ap (λ (f : SitedIn). f names sites) (at_case sited_stmt_step sited_arm_step x subject arms more is p)) ∙ h)

items_compared : (w : ℕ) (names : List Entry) (sites : List ℕ) (items : List TypedItem) → are_formed_items w items names ≡ true → are_sited_items items names sites ≡ true →
    are_compared items names sites ≡ true
items_compared w names sites [] h k = refl
items_compared w names sites (i ∷ items) h k =
    let form = formed i.value names in
    let forms = are_formed_items w items names in
    let sited = is_sited i.value names sites in
    let sites_of = are_sited_items items names sites in
    both_of (form.kept && sited) (are_compared items names sites)
    (both_of form.kept sited (second_of (form.width == w) form.kept (first_of (has w form) forms h)) (first_of sited sites_of k))
    (items_compared w names sites items (second_of (has w form) forms h) (second_of sited sites_of k))

arms_compared : (w : ℕ) (names : List Entry) (sites : List ℕ) (arms : List TypedArm) → list_all (formed_arm w names) arms ≡ true → list_all (sited_arm names sites) arms ≡ true →
    are_kept_arms arms names sites ≡ true
arms_compared w names sites [] h k = refl
arms_compared w names sites (a ∷ arms) h k =
    let forms = formed_arm w names a in
    let more_forms = list_all (formed_arm w names) arms in
    let sited = sited_arm names sites a in
    let more_sites = list_all (sited_arm names sites) arms in
    both_of (are_compared (items_in a.label) names sites) (are_kept_arms arms names sites)
    (items_compared w names sites (items_in a.label)
    (first_of (are_formed_items w (items_in a.label) names) (is_formed_stmt a.body names) (first_of forms more_forms h))
    (first_of (are_sited_items (items_in a.label) names sites) (is_sited_stmt a.body names sites) (first_of sited more_sites k)))
    (arms_compared w names sites arms (second_of forms more_forms h) (second_of sited more_sites k))

pub case_kept : (x : TypedStmt) (subject : Typed) (arms more : List TypedArm) (names : List Entry) (sites : List ℕ) → x ≡ e.Case subject arms → more ≡ arms →
    is_formed_stmt x names ≡ true → is_sited_stmt x names sites ≡ true → are_kept_arms more names sites ≡ true
case_kept x subject arms more names sites is p h k =
    arms_compared (formed subject names).width names sites more (case_formed x subject arms more names is p h) (case_sited x subject arms more names sites is p k)

pub body_formed : (x : TypedStmt) (subject : Typed) (arms more : List TypedArm) (names : List Entry) (i : ℕ) (d : TypedArm) → x ≡ e.Case subject arms → more ≡ arms →
    i < length more → is_formed_stmt x names ≡ true → is_formed_stmt (get_or more i d).body names ≡ true
body_formed x subject arms more names i d is p within h =
    let w : ℕ = (formed subject names).width in
    let a : TypedArm = get_or more i d in
    second_of (are_formed_items w (items_in a.label) names) (is_formed_stmt a.body names) (one_at (formed_arm w names) more i d within (case_formed x subject arms more names is p h))

pub body_sited : (x : TypedStmt) (subject : Typed) (arms more : List TypedArm) (names : List Entry) (sites : List ℕ) (i : ℕ) (d : TypedArm) → x ≡ e.Case subject arms →
    more ≡ arms → i < length more → is_sited_stmt x names sites ≡ true → is_sited_stmt (get_or more i d).body names sites ≡ true
body_sited x subject arms more names sites i d is p within h =
    let a : TypedArm = get_or more i d in
    second_of (are_sited_items (items_in a.label) names sites) (is_sited_stmt a.body names sites)
    (one_at (sited_arm names sites) more i d within (case_sited x subject arms more names sites is p h))

abbrev count_of_arm : TypedArm → ℕ
count_of_arm a = write_count a.body

one_count : (arms : List TypedArm) (i : ℕ) (d : TypedArm) → i < length arms → write_count (get_or arms i d).body ≤ total (map count_of_arm arms)
one_count [] i d h = absurd (omega arith)
one_count (b ∷ arms) zero d h = omega arith
one_count (b ∷ arms) (suc i) d h = omega (arith, one_count arms i d (omega arith))

pub body_count : (x : TypedStmt) (subject : Typed) (arms more : List TypedArm) (i : ℕ) (d : TypedArm) → x ≡ e.Case subject arms → more ≡ arms →
    i < length more → write_count (get_or more i d).body + 1 ≤ write_count x
body_count x subject arms more i d is p within = omega (arith, one_count more i d within, at_case write_count_step arm_count_step x subject arms more is p)

arms_counted : (arms : List TypedArm) → total (map count_of_arm arms) ≡ arm_counts arms
arms_counted [] = refl
arms_counted (a ∷ arms) = ap (λ (n : ℕ). write_count a.body + n) (arms_counted arms)

pub case_count : (x : TypedStmt) (subject : Typed) (arms more : List TypedArm) → x ≡ e.Case subject arms → more ≡ arms → write_count x ≡ 1 + arm_counts more
case_count x subject arms more is p = at_case write_count_step arm_count_step x subject arms more is p ∙ ap (λ (n : ℕ). 1 + n) (arms_counted more)

-- ---- the arm that is taken

pub met_found : (met : TypedItem → Bool) (arms : List TypedArm) (i : ℕ) (d : TypedArm) (names : List Entry) (otherwise : Acts) (b : Bool) → i < length arms →
    b ≡ list_any met (items_in (get_or arms i d).label) → b ≡ true →
    taken_in met (arms_in (drop i arms)) names otherwise ≡ taken_in met (arms_in arms) names otherwise →
    taken_in met (arms_in arms) names otherwise ≡ acts_of_arm (slice_get arms i) names otherwise
met_found met arms i d names otherwise b h is holds same =
    let a : TypedArm = get_or arms i d in
    sym same ∙ ap (λ (all : List TypedArm). taken_in met (arms_in all) names otherwise) (next_at arms i d h)
    ∙ ap (λ (t : Bool). if t then acts_in a.body names else taken_in met (arms_in (drop (i + 1) arms)) names otherwise) (sym is ∙ holds)
    ∙ sym (ap (λ (o : Option TypedArm). acts_of_arm o names otherwise) (slice_get-get_or arms i d h))

pub default_found : (arms : List TypedArm) (i : ℕ) (d : TypedArm) (names : List Entry) → i < length arms → (get_or arms i d).label ≡ l.Default →
    default_among (arms_in (drop i arms)) names ≡ default_among (arms_in arms) names → default_among (arms_in arms) names ≡ acts_of_arm (slice_get arms i) names End
default_found arms i d names h is same =
    let a : TypedArm = get_or arms i d in
    sym same ∙ ap (λ (all : List TypedArm). default_among (arms_in all) names) (next_at arms i d h)
    ∙ ap (λ (label : TypedLabel). default_in label (acts_in a.body names) (default_among (arms_in (drop (i + 1) arms)) names)) is
    ∙ sym (ap (λ (o : Option TypedArm). acts_of_arm o names End) (slice_get-get_or arms i d h))
