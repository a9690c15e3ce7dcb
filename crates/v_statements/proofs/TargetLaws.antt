-- What each variant of a target of the source means, and that the parts of a sound target are sound.
use Rattle.std.proofs.Common.{◌≡◌, ◌≤◌, ◌<◌, ◌+◌, ap, sym, subst, ◌∙◌, refl, ℕ, List, [], ◌∷◌, map, length, drop, get_or, Bool, true, false, Option, None, Some, arith}
use Rattle.std.specs.Prelude.{◌&&◌, nat_le, nat_lt, is_some, if◌then◌else◌, slice_get}
use Rattle.std.proofs.lemmas.Bool.{leb-true, ltb-true}
use Rattle.std.proofs.lemmas.List.{drop_all}
use Rattle.std.proofs.lemmas.List.Folds.{list_all-map}
use Rattle.v_syntax.specs.declared.token.Ident.{Ident}
use Rattle.v_syntax.specs.declared.expr.Expr.{Expr}
use Rattle.v_syntax.specs.declared.expr.Range.{Range}
use Rattle.v_syntax.specs.declared.stmt.Target.{Target}
use Rattle.v_syntax.specs.declared.stmt.Target.TheVariants as t
use Rattle.v_syntax.specs.declared.stmt.Target.TheOpen as o
use Rattle.v_syntax.specs.declared.stmt.Target.TheFolds.{fold-roll-Target, para-roll-Target}
use Rattle.v_meaning.specs.Views.{View}
use Rattle.v_meaning.specs.Senses.{Sense, constant, index_of, own}
use Rattle.v_meaning.specs.declared.names.Kind.{Kind}
use Rattle.v_meaning.specs.declared.names.Kind.TheVariants.{Parameter, Clock, Input, Net, Combinational, Variable, Memory}
use Rattle.v_meaning.specs.declared.names.Entry.{Entry}
use Rattle.v_meaning.specs.Names.{entry_of, entry_or, or_zero}
use Rattle.v_meaning.specs.Expressions.{sense_of}
use Rattle.v_meaning.specs.Declarations.{constant_value}
use Rattle.v_meaning.specs.Marks.{targets_width}
use Rattle.v_meaning.specs.Proper.{is_sound, is_proper, is_part, is_between_1_and_128, proper_value}
use Rattle.v_meaning.specs.Targets.{TargetSense, place_of, write_bits, selected_target, whole_target, part_target, parts_width, target_step, target_of}
use Rattle.v_core.specs.declared.typed.Typed.{Typed}
use Rattle.v_core.specs.declared.open.Open.{Open}
use Rattle.v_core.specs.declared.statement.TypedTarget.{TypedTarget}
use Rattle.v_core.specs.Values.{Value, typed_value, index_in}
use Rattle.v_core.specs.Bodies.{sense_in}
use Rattle.v_core.specs.Statements.{target_in}
use Rattle.v_typing.specs.Sound.{sound_target_step, is_sound_target, targets_sound, judged_targets}
use Rattle.v_statements.specs.declared.targets.MeasuredTarget.{MeasuredTarget}
use Rattle.v_statements.specs.Made.{part_in, select_in, joined_in}
use Rattle.v_statements.specs.Measured.{IsTarget, is_memory, joined_target}
use Rattle.v_core.specs.Formed.{has, is_width, within_words}
use Rattle.v_core.specs.FormedCores.{target_form, target_parts}
use Rattle.v_statements.proofs.FormLaws.{is_word, joined_keeps}
use Rattle.v_statements.proofs.Turns.{next_is, AreSame, all_same}
use Rattle.v_statements.proofs.Sites.{bound_still, widths_still}

pub first_of : (a b : Bool) → (a && b) ≡ true → a ≡ true
first_of true b h = refl
first_of false b h = absurd (cc h)

pub second_of : (a b : Bool) → (a && b) ≡ true → b ≡ true
second_of true b h = h
second_of false b h = absurd (cc h)

-- ---- made targets

pub as_target : (names : List Entry) (m : MeasuredTarget) (s t : TargetSense) → s ≡ t → IsTarget names m s → IsTarget names m t
as_target names m s t is h = subst (IsTarget names m) is h

-- so many bits from the number of the lowest one up
abbrev bits_of : Entry → ℕ → ℕ → TargetSense
bits_of e low width = record { width = width; writes = λ v value. write_bits (place_of e.kind) low width value }

pub part_made : (names : List Entry) (e : Entry) (made : TypedTarget) (n low low' width width' : ℕ) →
    target_in made ≡ part_in n low width → entry_or (slice_get names n) ≡ e → low ≡ low' → width ≡ width' → is_width width ≡ true → has width (target_form made names) ≡ true →
    IsTarget names (record { width = width; target = made }) (bits_of e low' width')
part_made names e made n low low' width width' is entry p q word keeps = record {
  means = ap (λ (f : List Entry → TargetSense). f names) is ∙ (λ i. bits_of (entry i) (p i) (q i));
  measured = q;
  word = word;
  keeps = keeps;
}

selected_is : (kind : Kind) (e : Entry) (f : View → Option ℕ) →
    ◌≡◌ {A = TargetSense} (record { width = if is_memory kind then e.width else 1; writes = (selected_target kind e f).writes }) (selected_target kind e f)
selected_is (Parameter value) e f = refl
selected_is Clock e f = refl
selected_is (Input k) e f = refl
selected_is (Net k) e f = refl
selected_is (Combinational k) e f = refl
selected_is (Variable k) e f = refl
selected_is (Memory k low count) e f = refl

-- what is selected, with so many bits
abbrev selected_bits : ℕ → Entry → (View → Option ℕ) → TargetSense
selected_bits bits e f = record { width = bits; writes = (selected_target e.kind e f).writes }

selected_width : (kind : Kind) (e : Entry) (f : View → Option ℕ) → (selected_target kind e f).width ≡ (if is_memory kind then e.width else 1)
selected_width kind e f = ap (λ (s : TargetSense). s.width) (sym (selected_is kind e f))

pub select_made : (names : List Entry) (e : Entry) (made : TypedTarget) (n bits width : ℕ) (kind : Kind) (index : Open) (x : Typed) →
    target_in made ≡ select_in n bits index.width index.signed x → typed_value x ≡ (λ names. own (sense_in index names)) → entry_or (slice_get names n) ≡ e →
    bits ≡ (if is_memory kind then width else 1) → kind ≡ e.kind → width ≡ e.width → is_width bits ≡ true → has bits (target_form made names) ≡ true →
    IsTarget names (record { width = bits; target = made }) (selected_target e.kind e (index_of (sense_in index names)))
select_made names e made n bits width kind index x is p entry measure of_kind of_width word keeps =
    let same : bits ≡ (if is_memory e.kind then e.width else 1) = measure ∙ (λ i. if is_memory (of_kind i) then of_width i else 1) in
    record {
      means =
          ap (λ (f : List Entry → TargetSense). f names) is
          ∙ ap (λ (f : Value). selected_bits bits (entry_or (slice_get names n)) (λ v. index_in index.width index.signed (f names v))) p
          ∙ (λ i. selected_bits (same i) (entry i) (index_of (sense_in index names)))
          ∙ selected_is e.kind e (index_of (sense_in index names));
      measured = same ∙ sym (selected_width e.kind e (index_of (sense_in index names)));
      word = word;
      keeps = keeps;
    }

-- ---- targets of the source

pub when_name : (names : List Entry) (sites : List ℕ) (x : Target) (n : Ident) → x ≡ t.Name n → whole_target (entry_of names n.name) ≡ target_of names sites x
when_name names sites x n is =
    sym (ap (target_of names sites) (is ∙ sym (t.rolls-Name n)) ∙ fold-roll-Target TargetSense (target_step names sites) (o.Name n))

pub when_select : (names : List Entry) (sites : List ℕ) (x : Target) (n : Ident) (bracket : ℕ) (index : Expr) (s : Sense) → x ≡ t.Select n bracket index →
    s ≡ sense_of names sites index → selected_target (entry_of names n.name).kind (entry_of names n.name) (index_of s) ≡ target_of names sites x
when_select names sites x n bracket index s is p =
    ap (λ (y : Sense). selected_target (entry_of names n.name).kind (entry_of names n.name) (index_of y)) p
    ∙ sym (ap (target_of names sites) (is ∙ sym (t.rolls-Select n bracket index)) ∙ fold-roll-Target TargetSense (target_step names sites) (o.Select n bracket index))

-- bounds that are proper are what their expressions stand for
proper_is : (b : Bool) (v : Option ℕ) → is_some (if b then v else None) ≡ true → (if b then v else None) ≡ v
proper_is true v h = refl
proper_is false v h = absurd (cc h)

bound_is : (names : List Entry) (sites : List ℕ) (x : Expr) → is_some (proper_value names x) ≡ true → proper_value names x ≡ constant (sense_of names sites x)
bound_is names sites x h = proper_is (is_proper names x) (constant_value names x) h ∙ sym (bound_still names sites x)

pub msb_is : (e : Entry) (msb lsb : Option ℕ) → is_part e msb lsb ≡ true → is_some msb ≡ true
msb_is e None lsb h = absurd (cc h)
msb_is e (Some m) lsb h = refl

pub lsb_is : (e : Entry) (msb lsb : Option ℕ) → is_part e msb lsb ≡ true → is_some lsb ≡ true
lsb_is e None lsb h = absurd (cc h)
lsb_is e (Some m) None h = absurd (cc h)
lsb_is e (Some m) (Some l) h = refl

pub when_part : (names : List Entry) (sites : List ℕ) (x : Target) (n : Ident) (r : Range) → x ≡ t.Part n r →
    is_part (entry_of names n.name) (proper_value names r.msb.expr) (proper_value names r.lsb.expr) ≡ true →
    part_target (entry_of names n.name) (or_zero (proper_value names r.msb.expr)) (or_zero (proper_value names r.lsb.expr)) ≡ target_of names sites x
when_part names sites x n r is sound =
    let msb = bound_is names sites r.msb.expr (msb_is (entry_of names n.name) (proper_value names r.msb.expr) (proper_value names r.lsb.expr) sound) in
    let lsb = bound_is names sites r.lsb.expr (lsb_is (entry_of names n.name) (proper_value names r.msb.expr) (proper_value names r.lsb.expr) sound) in
    (λ i. part_target (entry_of names n.name) (or_zero (msb i)) (or_zero (lsb i)))
    ∙ sym (ap (target_of names sites) (is ∙ sym (t.rolls-Part n r)) ∙ fold-roll-Target TargetSense (target_step names sites) (o.Part n r))

pub when_concat : (names : List Entry) (sites : List ℕ) (x : Target) (brace : ℕ) (parts more : List Target) → x ≡ t.Concat brace parts → more ≡ parts →
    joined_target (map (target_of names sites) more) ≡ target_of names sites x
when_concat names sites x brace parts more is p =
    ap (λ (ys : List Target). joined_target (map (target_of names sites) ys)) p
    ∙ sym (ap (target_of names sites) (is ∙ sym (t.rolls-Concat brace parts)) ∙ fold-roll-Target TargetSense (target_step names sites) (o.Concat brace parts))

-- ---- sound targets

pub sound_index : (names : List Entry) (x : Target) (n : Ident) (bracket : ℕ) (index : Expr) → x ≡ t.Select n bracket index → is_sound_target names x ≡ true →
    is_sound names index ≡ true
sound_index names x n bracket index is h =
    sym (ap (is_sound_target names) (is ∙ sym (t.rolls-Select n bracket index)) ∙ para-roll-Target Bool (sound_target_step names) (o.Select n bracket index)) ∙ h

pub sound_bounds : (names : List Entry) (x : Target) (n : Ident) (r : Range) → x ≡ t.Part n r → is_sound_target names x ≡ true →
    is_part (entry_of names n.name) (proper_value names r.msb.expr) (proper_value names r.lsb.expr) ≡ true
sound_bounds names x n r is h =
    sym (ap (is_sound_target names) (is ∙ sym (t.rolls-Part n r)) ∙ para-roll-Target Bool (sound_target_step names) (o.Part n r)) ∙ h

abbrev judged : List Entry → Target → Target × Bool
judged names y = (y, is_sound_target names y)

themselves : (names : List Entry) (parts : List Target) → judged_targets (map (judged names) parts) ≡ parts
themselves names [] = refl
themselves names (x ∷ xs) = ap (λ (r : List Target). x ∷ r) (themselves names xs)

concat_sound : (names : List Entry) (x : Target) (brace : ℕ) (parts : List Target) → x ≡ t.Concat brace parts → is_sound_target names x ≡ true →
    (targets_sound names parts && is_between_1_and_128 (Some (targets_width names parts))) ≡ true
concat_sound names x brace parts is h =
    sym
    (ap (is_sound_target names) (is ∙ sym (t.rolls-Concat brace parts)) ∙ para-roll-Target Bool (sound_target_step names) (o.Concat brace parts)
    ∙ (λ i. list_all-map (λ (y : Target × Bool). y.1) (judged names) parts i && is_between_1_and_128 (Some (targets_width names (themselves names parts i)))))
    ∙ h

pub sound_parts : (names : List Entry) (x : Target) (brace : ℕ) (parts more : List Target) → x ≡ t.Concat brace parts → more ≡ parts → is_sound_target names x ≡ true →
    targets_sound names more ≡ true
sound_parts names x brace parts more is p h =
    ap (targets_sound names) p ∙ first_of (targets_sound names parts) (is_between_1_and_128 (Some (targets_width names parts))) (concat_sound names x brace parts is h)

pub narrow_parts : (names : List Entry) (sites : List ℕ) (x : Target) (brace : ℕ) (parts more : List Target) → x ≡ t.Concat brace parts → more ≡ parts →
    is_sound_target names x ≡ true → parts_width (map (target_of names sites) more) ≤ 128
narrow_parts names sites x brace parts more is p h =
    let same : parts_width (map (target_of names sites) more) ≡ targets_width names parts =
    ap (λ (ys : List Target). parts_width (map (target_of names sites) ys)) p ∙ widths_still names sites parts in
    let between : (nat_le 1 (targets_width names parts) && nat_le (targets_width names parts) 128) ≡ true =
    second_of (targets_sound names parts) (is_between_1_and_128 (Some (targets_width names parts))) (concat_sound names x brace parts is h) in
    let small : targets_width names parts ≤ 128 =
    leb-true (targets_width names parts) 128 (second_of (nat_le 1 (targets_width names parts)) (nat_le (targets_width names parts) 128) between) in
    omega (arith, same, small)

pub some_parts : (names : List Entry) (sites : List ℕ) (x : Target) (brace : ℕ) (parts more : List Target) → x ≡ t.Concat brace parts → more ≡ parts →
    is_sound_target names x ≡ true → 1 ≤ parts_width (map (target_of names sites) more)
some_parts names sites x brace parts more is p h =
    let same : parts_width (map (target_of names sites) more) ≡ targets_width names parts =
    ap (λ (ys : List Target). parts_width (map (target_of names sites) ys)) p ∙ widths_still names sites parts in
    let between : (nat_le 1 (targets_width names parts) && nat_le (targets_width names parts) 128) ≡ true =
    second_of (targets_sound names parts) (is_between_1_and_128 (Some (targets_width names parts))) (concat_sound names x brace parts is h) in
    let one : 1 ≤ targets_width names parts =
    leb-true 1 (targets_width names parts) (first_of (nat_le 1 (targets_width names parts)) (nat_le (targets_width names parts) 128) between) in
    omega (arith, same, one)

-- ---- bounds

pub record AreBounds (e : Entry) (msb lsb : ℕ) : Type 0 where
  pub above : e.low ≤ lsb
  pub descends : lsb ≤ msb
  pub within : msb < e.low + e.width

pub are_bounds : (e : Entry) (msb lsb : Option ℕ) (m l : ℕ) → msb ≡ Some m → lsb ≡ Some l → is_part e msb lsb ≡ true → AreBounds e m l
are_bounds e msb lsb m l p q h =
    let three : (nat_le e.low l && nat_le l m && nat_lt m (e.low + e.width)) ≡ true = sym (λ i. is_part e (p i) (q i)) ∙ h in
    let two : (nat_le e.low l && nat_le l m) ≡ true = first_of (nat_le e.low l && nat_le l m) (nat_lt m (e.low + e.width)) three in
    record {
      above = leb-true e.low l (first_of (nat_le e.low l) (nat_le l m) two);
      descends = leb-true l m (second_of (nat_le e.low l) (nat_le l m) two);
      within = ltb-true m (e.low + e.width) (second_of (nat_le e.low l && nat_le l m) (nat_lt m (e.low + e.width)) three);
    }

-- ---- parts side by side, one after another

left_width : (names : List Entry) (sites : List ℕ) (parts : List Target) (i : ℕ) (x : Target) → i < length parts → x ≡ get_or parts i x →
    parts_width (map (target_of names sites) (drop i parts)) ≡ (target_of names sites x).width + parts_width (map (target_of names sites) (drop (i + 1) parts))
left_width names sites parts i x h is = ap (λ (r : List Target). parts_width (map (target_of names sites) r)) (next_is parts i x h is)

pub room : (names : List Entry) (sites : List ℕ) (parts : List Target) (i : ℕ) (x : Target) (width more whole : ℕ) → i < length parts → x ≡ get_or parts i x →
    more ≡ (target_of names sites x).width → width + parts_width (map (target_of names sites) (drop i parts)) ≡ whole → whole ≤ 128 → width + more ≤ 128
room names sites parts i x width more whole h is p before small =
    let e : parts_width (map (target_of names sites) (drop i parts)) ≡ (target_of names sites x).width + parts_width (map (target_of names sites) (drop (i + 1) parts)) =
    left_width names sites parts i x h is in
    omega (arith, e, p, before, small)

pub more_bits : (names : List Entry) (sites : List ℕ) (parts : List Target) (i : ℕ) (x : Target) (width more wider whole : ℕ) → i < length parts → x ≡ get_or parts i x →
    more ≡ (target_of names sites x).width → wider ≡ width + more → width + parts_width (map (target_of names sites) (drop i parts)) ≡ whole →
    wider + parts_width (map (target_of names sites) (drop (i + 1) parts)) ≡ whole
more_bits names sites parts i x width more wider whole h is p q before =
    let e : parts_width (map (target_of names sites) (drop i parts)) ≡ (target_of names sites x).width + parts_width (map (target_of names sites) (drop (i + 1) parts)) =
    left_width names sites parts i x h is in
    omega (arith, e, p, q, before)

pub joined_made : (names : List Entry) (sites : List ℕ) (parts : List Target) (i width : ℕ) (typed : List TypedTarget) (made : TypedTarget) → length parts ≤ i →
    target_in made ≡ joined_in typed → AreSame (λ (t : TypedTarget). target_in t names) (target_of names sites) typed parts i →
    width + parts_width (map (target_of names sites) (drop i parts)) ≡ parts_width (map (target_of names sites) parts) →
    target_form made ≡ (λ names. within_words (target_parts (map target_form typed) names)) → has width (target_parts (map target_form typed) names) ≡ true →
    1 ≤ parts_width (map (target_of names sites) parts) → parts_width (map (target_of names sites) parts) ≤ 128 →
    IsTarget names (record { width = width; target = made }) (joined_target (map (target_of names sites) parts))
joined_made names sites parts i width typed made h is same bits form before some top =
    let none : parts_width (map (target_of names sites) (drop i parts)) ≡ 0 = ap (λ (r : List Target). parts_width (map (target_of names sites) r)) (drop_all i parts h) in
    record {
      means =
          ap (λ (f : List Entry → TargetSense). f names) is
          ∙ ap joined_target (all_same (λ (t : TypedTarget). target_in t names) (target_of names sites) typed parts i h same);
      measured = omega (arith, none, bits);
      word = is_word width (omega (arith, none, bits, some)) (omega (arith, none, bits, top));
      keeps = joined_keeps names typed made width _ form (omega (arith, none, bits)) some top before;
    }
