-- What is counted of each kind of target, and a turn of the loop over targets side by side.
use Rattle.std.proofs.Common.{◌≡◌, ◌<◌, ◌≤◌, ◌+◌, ℕ, List, [], ◌∷◌, map, length, get_or, Bool, true, false, Option, None, Some, refl, sym, ap, ◌∙◌, subst}
use Rattle.std.specs.Prelude.{◌&&◌, if◌then◌else◌, sum}
use Rattle.std.proofs.lemmas.List.Folds.{list_all-map}
use Rattle.v_syntax.specs.declared.token.Ident.{Ident}
use Rattle.v_syntax.specs.declared.expr.Expr.{Expr}
use Rattle.v_syntax.specs.declared.expr.Range.{Range}
use Rattle.v_syntax.specs.declared.stmt.Target.{Target}
use Rattle.v_syntax.specs.declared.stmt.Target.TheVariants as v
use Rattle.v_syntax.specs.declared.stmt.Target.TheOpen as t
use Rattle.v_syntax.specs.declared.stmt.Target.TheFolds.{fold-roll-Target, para-roll-Target}
use Rattle.v_meaning.specs.Views.{View}
use Rattle.v_meaning.specs.Senses.{index_of}
use Rattle.v_meaning.specs.declared.names.Kind.{Kind}
use Rattle.v_meaning.specs.declared.names.Kind.TheVariants.{Parameter, Clock, Input, Net, Combinational, Variable, Memory}
use Rattle.v_meaning.specs.declared.names.Entry.{Entry}
use Rattle.v_meaning.specs.Names.{entry_of, or_zero, span}
use Rattle.v_meaning.specs.Targets.{TargetSense, target_step, target_of, selected_target, parts_width}
use Rattle.v_meaning.specs.Expressions.{sense_of}
use Rattle.v_meaning.specs.Declarations.{constant_value}
use Rattle.v_meaning.specs.Sites.{select_width}
use Rattle.v_meaning.specs.Proper.{is_sound, is_proper, is_part, is_between_1_and_128, proper_value}
use Rattle.v_meaning.specs.Marks.{targets_width}
use Rattle.v_meaning.specs.Weights.{Weighed, weighed, own_weight, size_of, TargetWeight, sizes, indices_weight, target_weight_step, target_weight}
use Rattle.v_typing.specs.Sound.{JudgedTarget, judged_targets, sound_target_step, is_sound_target, targets_sound}
use Rattle.v_weight.specs.declared.counting.Counted.{Counted}
use Rattle.v_weight.specs.declared.targets.CountedTarget.{CountedTarget}
use Rattle.v_weight.specs.Saturated.{Same}
use Rattle.v_weight.specs.Counts.{Stands, weighing, IsCounted}
use Rattle.v_weight.specs.Targets.{width_in, size_in, indices_in, IsTarget, AreTargets}
use Rattle.v_weight.proofs.Lists.{first_of, sum_cons, passes, Sums, Adds, sums_next, sums_end}

target_by : (names : List Entry) (x : Target) (r : CountedTarget) (s : TargetSense) (w : TargetWeight) → target_of names [] x ≡ s → target_weight names x ≡ w →
    Same r.width s.width → Same r.size w.size → Same r.indices w.indices → IsTarget names x r
target_by names x r s w of_sense of_weight width size indices = record {
  width = subst (λ (z : TargetSense). Same r.width z.width) (sym of_sense) width;
  size = subst (λ (z : TargetWeight). Same r.size z.size) (sym of_weight) size;
  indices = subst (λ (z : TargetWeight). Same r.indices z.indices) (sym of_weight) indices;
}

pub when_name : (names : List Entry) (x : Target) (n : Ident) (r : CountedTarget) → x ≡ v.Name n → Same r.width (entry_of names n.name).width → Same r.size (size_of (entry_of names n.name)) →
    Same r.indices 0 → IsTarget names x r
when_name names x n r is width size indices =
    let rolled = is ∙ sym (v.rolls-Name n) in
    target_by names x r _ _ (ap (target_of names []) rolled ∙ fold-roll-Target TargetSense (target_step names []) (t.Name n))
    (ap (target_weight names) rolled ∙ fold-roll-Target TargetWeight (target_weight_step names) (t.Name n)) width size indices

selected_is : (k : Kind) (d : Entry) (index : View → Option ℕ) → (selected_target k d index).width ≡ select_width k d
selected_is (Parameter value) d index = refl
selected_is Clock d index = refl
selected_is (Input k) d index = refl
selected_is (Net k) d index = refl
selected_is (Combinational k) d index = refl
selected_is (Variable k) d index = refl
selected_is (Memory k low count) d index = refl

pub when_select : (names : List Entry) (x : Target) (index : Expr) (n : Ident) (bracket : ℕ) (m : Counted) (r : CountedTarget) → x ≡ v.Select n bracket index →
    (is_sound names index ≡ true → IsCounted names index m) → Same r.width (select_width (entry_of names n.name).kind (entry_of names n.name)) → Same r.size (size_of (entry_of names n.name)) →
    ((s : Weighed) → Stands m s → Same r.indices (own_weight s)) → is_sound_target names x ≡ true → IsTarget names x r
when_select names x index n bracket m r is counted width size indices sound =
    let rolled = is ∙ sym (v.rolls-Select n bracket index) in
    let inner : is_sound names index ≡ true = sym (ap (is_sound_target names) rolled ∙ para-roll-Target Bool (sound_target_step names) (t.Select n bracket index)) ∙ sound in
    target_by names x r _ _ (ap (target_of names []) rolled ∙ fold-roll-Target TargetSense (target_step names []) (t.Select n bracket index))
    (ap (target_weight names) rolled ∙ fold-roll-Target TargetWeight (target_weight_step names) (t.Select n bracket index))
    (subst (λ (k : ℕ). Same r.width k) (sym (selected_is (entry_of names n.name).kind (entry_of names n.name) (index_of (sense_of names [] index)))) width)
    size (indices (weighed names (weighing names index)) (counted inner).stands)

-- bounds of a part are proper
abbrev value_if : Bool → Option ℕ → Option ℕ
value_if proper value = if proper then value else None

bounds_are : (d k : Bool) (e : Entry) (m l : Option ℕ) → is_part e (value_if d m) (value_if k l) ≡ true → span (or_zero (value_if d m)) (or_zero (value_if k l)) ≡ span (or_zero m) (or_zero l)
bounds_are true true e m l h = refl
bounds_are true false e (Some m) l h = absurd (cc h)
bounds_are true false e None l h = absurd (cc h)
bounds_are false k e m l h = absurd (cc h)

pub when_part : (names : List Entry) (x : Target) (n : Ident) (r : Range) (c : CountedTarget) → x ≡ v.Part n r →
    Same c.width (span (or_zero (proper_value names r.msb.expr)) (or_zero (proper_value names r.lsb.expr))) → Same c.size (size_of (entry_of names n.name)) → Same c.indices 0 →
    is_sound_target names x ≡ true → IsTarget names x c
when_part names x n r c is width size indices sound =
    let rolled = is ∙ sym (v.rolls-Part n r) in
    let part : is_part (entry_of names n.name) (proper_value names r.msb.expr) (proper_value names r.lsb.expr) ≡ true =
    sym (ap (is_sound_target names) rolled ∙ para-roll-Target Bool (sound_target_step names) (t.Part n r)) ∙ sound in
    target_by names x c _ _ (ap (target_of names []) rolled ∙ fold-roll-Target TargetSense (target_step names []) (t.Part n r))
    (ap (target_weight names) rolled ∙ fold-roll-Target TargetWeight (target_weight_step names) (t.Part n r))
    (subst (λ (k : ℕ). Same c.width k)
    (bounds_are (is_proper names r.msb.expr) (is_proper names r.lsb.expr) (entry_of names n.name) (constant_value names r.msb.expr) (constant_value names r.lsb.expr) part) width)
    size indices

-- ---- targets side by side

widths_are : (names : List Entry) (xs : List Target) → parts_width (map (target_of names []) xs) ≡ sum (map (width_in names) xs)
widths_are names [] = refl
widths_are names (x ∷ xs) = ap (λ (n : ℕ). width_in names x + n) (widths_are names xs) ∙ sym (sum_cons (width_in names) x xs)

sizes_are : (names : List Entry) (xs : List Target) → sizes (map (target_weight names) xs) ≡ sum (map (size_in names) xs)
sizes_are names [] = refl
sizes_are names (x ∷ xs) =
    sum_cons (λ (w : TargetWeight). w.size) (target_weight names x) (map (target_weight names) xs) ∙ ap (λ (n : ℕ). size_in names x + n) (sizes_are names xs) ∙ sym (sum_cons (size_in names) x xs)

indices_are : (names : List Entry) (xs : List Target) → indices_weight (map (target_weight names) xs) ≡ sum (map (indices_in names) xs)
indices_are names [] = refl
indices_are names (x ∷ xs) =
    sum_cons (λ (w : TargetWeight). w.indices) (target_weight names x) (map (target_weight names) xs) ∙ ap (λ (n : ℕ). indices_in names x + n) (indices_are names xs)
    ∙ sym (sum_cons (indices_in names) x xs)

pub when_concat : (names : List Entry) (x : Target) (brace : ℕ) (parts more : List Target) (r : CountedTarget) → x ≡ v.Concat brace parts → more ≡ parts →
    (targets_sound names more ≡ true → AreTargets names more r) → is_sound_target names x ≡ true → IsTarget names x r
when_concat names x brace parts more r is p counted sound =
    let rolled = is ∙ ap (λ (ys : List Target). v.Concat brace ys) (sym p) ∙ sym (v.rolls-Concat brace more) in
    let judged : List JudgedTarget = map (λ (y : Target). (y, is_sound_target names y)) more in
    let all : (targets_sound names more && is_between_1_and_128 (Some (targets_width names (judged_targets judged)))) ≡ true =
    ap (λ (b : Bool). b && is_between_1_and_128 (Some (targets_width names (judged_targets judged))))
    (sym (list_all-map (λ (y : JudgedTarget). y.1) (λ (y : Target). (y, is_sound_target names y)) more))
    ∙ sym (ap (is_sound_target names) rolled ∙ para-roll-Target Bool (sound_target_step names) (t.Concat brace more)) ∙ sound in
    let of_parts : AreTargets names more r = counted (first_of (targets_sound names more) _ all) in
    target_by names x r _ _ (ap (target_of names []) rolled ∙ fold-roll-Target TargetSense (target_step names []) (t.Concat brace more))
    (ap (target_weight names) rolled ∙ fold-roll-Target TargetWeight (target_weight_step names) (t.Concat brace more))
    (subst (λ (k : ℕ). Same r.width k) (sym (widths_are names more)) of_parts.width)
    (subst (λ (k : ℕ). Same r.size k) (sym (sizes_are names more)) of_parts.size)
    (subst (λ (k : ℕ). Same r.indices k) (sym (indices_are names more)) of_parts.indices)

-- What is added up of the targets so far.
pub record TargetsTo (names : List Entry) (xs : List Target) (i width size indices : ℕ) : Type 0 where
  pub of_width : targets_sound names xs ≡ true → Sums (width_in names) xs i width
  pub of_size : targets_sound names xs ≡ true → Sums (size_in names) xs i size
  pub of_indices : targets_sound names xs ≡ true → Sums (indices_in names) xs i indices

pub targets_next : (names : List Entry) (xs : List Target) (i : ℕ) (x : Target) (width size indices more_width more_size more_indices : ℕ) (one : CountedTarget) → i < length xs → x ≡ get_or xs i x →
    (is_sound_target names x ≡ true → IsTarget names x one) → Adds width one.width more_width → Adds size one.size more_size → Adds indices one.indices more_indices →
    TargetsTo names xs i width size indices → TargetsTo names xs (i + 1) more_width more_size more_indices
targets_next names xs i x width size indices more_width more_size more_indices one h is counted widths sizes all t = record {
  of_width = λ sound. sums_next (width_in names) xs i x width one.width more_width h is widths (counted (passes (is_sound_target names) xs i x h is sound)).width (t.of_width sound);
  of_size = λ sound. sums_next (size_in names) xs i x size one.size more_size h is sizes (counted (passes (is_sound_target names) xs i x h is sound)).size (t.of_size sound);
  of_indices = λ sound. sums_next (indices_in names) xs i x indices one.indices more_indices h is all (counted (passes (is_sound_target names) xs i x h is sound)).indices (t.of_indices sound);
}

pub targets_end : (names : List Entry) (xs : List Target) (i : ℕ) (r : CountedTarget) → length xs ≤ i → TargetsTo names xs i r.width r.size r.indices → targets_sound names xs ≡ true → AreTargets names xs r
targets_end names xs i r h t sound = record {
  width = sums_end (width_in names) xs i r.width h (t.of_width sound);
  size = sums_end (size_in names) xs i r.size h (t.of_size sound);
  indices = sums_end (indices_in names) xs i r.indices h (t.of_indices sound);
}
