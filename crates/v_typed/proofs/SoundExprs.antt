-- An expression is sound whose marks keep the rules of numbers, bounds and concatenations.
use Rattle.std.proofs.Common.{◌≡◌, ℕ, List, [], ◌∷◌, ◌++◌, map, Bool, true, false, not, Option, None, Some, refl, sym, ap, ◌∙◌, subst, arith}
use Rattle.std.specs.Prelude.{◌*◌, ◌&&◌, if◌then◌else◌}
use Rattle.std.specs.List.{list_all}
use Rattle.std.proofs.lemmas.Bool.{and_parts, and_from}
use Rattle.v_syntax.specs.declared.expr.Expr.{Expr}
use Rattle.v_syntax.specs.declared.expr.Expr.TheOpen.{Expr-F}
use Rattle.v_syntax.specs.declared.expr.Expr.TheOpen as o
use Rattle.v_syntax.specs.declared.expr.Expr.TheViews.{roll-Expr}
use Rattle.v_syntax.specs.declared.expr.Expr.TheFolds.{map-Expr, fold-roll-Expr, para-roll-Expr, ind-Expr}
use Rattle.v_syntax.specs.declared.expr.Number.{Number}
use Rattle.v_syntax.specs.declared.expr.BinaryOperator.{BinaryOperator}
use Rattle.v_syntax.specs.declared.stmt.CaseKind.{CaseKind}
use Rattle.v_syntax.specs.declared.stmt.CaseKind.TheVariants as c
use Rattle.v_meaning.specs.declared.names.Entry.{Entry}
use Rattle.v_meaning.specs.Literals.{is_unsized}
use Rattle.v_meaning.specs.Names.{entry_of, or_zero}
use Rattle.v_meaning.specs.Expressions.{number_at_top, number_by_itself}
use Rattle.v_meaning.specs.Declarations.{constant_value}
use Rattle.v_meaning.specs.Proper.{all_width, is_between_1_and_128, is_part, Judged, judged_exprs, are_sound, is_unsized_number, can_join, sound_step, is_sound, is_proper, is_count, are_definite, bits_if, concat_bits, replicated_bits}
use Rattle.v_meaning.specs.Marks.{Mark, UnsizedPart, unsized_number, parts_marks, links_marks, mark_step, marks_of, item_digits, item_marks}
use Rattle.v_typed.proofs.KeptMarks.{AreKept, kept_left, kept_right}

IsJudged : List Entry → Expr → Type 0
IsJudged names x = AreKept names (marks_of names x) → is_sound names x ≡ true

-- ---- one level

abbrev marked : List Entry → Expr → Expr × List Mark
marked names x = (x, marks_of names x)

abbrev judged : List Entry → Expr → Judged
judged names x = (x, is_sound names x)

abbrev marks_layer : List Entry → Expr-F Expr → List Mark
marks_layer names x = mark_step names (map-Expr Expr (Expr × List Mark) (marked names) x)

abbrev sound_layer : List Entry → Expr-F Expr → Bool
sound_layer names x = sound_step names (map-Expr Expr Judged (judged names) x)

rolled : (names : List Entry) (x : Expr-F Expr) → (AreKept names (marks_layer names x) → sound_layer names x ≡ true) → IsJudged names (roll-Expr x)
unfolding IsJudged
rolled names x f h =
    para-roll-Expr Bool (sound_step names) x ∙ f (subst (λ (marks : List Mark). AreKept names marks) (para-roll-Expr (List Mark) (mark_step names) x) h)

-- ---- operands

abbrev Held : List Entry → Type 0
Held names = (x : Expr) × IsJudged names x

abbrev plain : (names : List Entry) → Held names → Expr
plain names x = x.0

abbrev link_of : {A : Type 0} (f : Expr → A) → BinaryOperator × Expr → BinaryOperator × A
link_of f l = (l.0, f l.1)

abbrev plain_link : (names : List Entry) → BinaryOperator × Held names → BinaryOperator × Expr
plain_link names l = (l.0, l.1.0)

links_sound : (names : List Entry) (ls : List (BinaryOperator × Held names)) → AreKept names (links_marks (map (link_of (marked names)) (map (plain_link names) ls))) →
    list_all (λ (l : BinaryOperator × Judged). l.1.1) (map (link_of (judged names)) (map (plain_link names) ls)) ≡ true
unfolding IsJudged
links_sound names [] h = refl
links_sound names (l ∷ ls) h =
    let more : List Mark = links_marks (map (link_of (marked names)) (map (plain_link names) ls)) in
    and_from (is_sound names l.1.0) (list_all (λ (l : BinaryOperator × Judged). l.1.1) (map (link_of (judged names)) (map (plain_link names) ls)))
    (l.1.1 (kept_left names (marks_of names l.1.0) more h)) (links_sound names ls (kept_right names (marks_of names l.1.0) more h))

sized_case : (names : List Entry) (b : Bool) (at : ℕ) → AreKept names (if b then UnsizedPart at ∷ [] else []) → not b ≡ true
sized_case names true at h = absurd h.0
sized_case names false at h = refl

sized : (names : List Entry) (n : Option Number) → AreKept names (unsized_number n) → not (is_unsized_number n) ≡ true
sized names None h = refl
sized names (Some n) h = sized_case names (is_unsized n.spelling) n.at h

record PartsSound (names : List Entry) (parts : List Expr) : Type 0 where
  sound : are_sound (map (judged names) parts) ≡ true
  sized : list_all (λ (x : Judged). not (is_unsized_number (number_by_itself x.0))) (map (judged names) parts) ≡ true

parts_sound : (names : List Entry) (xs : List (Held names)) → AreKept names (parts_marks (map (marked names) (map (plain names) xs))) → PartsSound names (map (plain names) xs)
unfolding IsJudged
parts_sound names [] h = record { sound = refl; sized = refl }
parts_sound names (x ∷ xs) h =
    let more : List Mark = parts_marks (map (marked names) (map (plain names) xs)) in
    let own = kept_left names (unsized_number (number_by_itself x.0) ++ marks_of names x.0) more h in
    let rest = parts_sound names xs (kept_right names (unsized_number (number_by_itself x.0) ++ marks_of names x.0) more h) in
    record {
      sound = and_from (is_sound names x.0) (are_sound (map (judged names) (map (plain names) xs))) (x.1 (kept_right names (unsized_number (number_by_itself x.0)) (marks_of names x.0) own)) rest.sound;
      sized = and_from (not (is_unsized_number (number_by_itself x.0))) (list_all (λ (x : Judged). not (is_unsized_number (number_by_itself x.0))) (map (judged names) (map (plain names) xs)))
          (sized names (number_by_itself x.0) (kept_left names (unsized_number (number_by_itself x.0)) (marks_of names x.0) own)) rest.sized;
    }

pub themselves : {X A : Type 0} (f : X → A) (xs : List X) → map (λ (x : X × A). x.0) (map (λ (y : X). (y, f y)) xs) ≡ xs
themselves f [] = refl
themselves {X = X} f (x ∷ xs) = ap (λ (l : List X). x ∷ l) (themselves f xs)

-- ---- widths and bounds

pub bits_between : (b : Bool) (width : ℕ) → is_between_1_and_128 (bits_if b width) ≡ true → is_between_1_and_128 (Some width) ≡ true
bits_between true width h = h
bits_between false width h = absurd (cc h)

bits_definite : (b : Bool) (width : ℕ) → is_between_1_and_128 (bits_if b width) ≡ true → b ≡ true
bits_definite true width h = refl
bits_definite false width h = absurd (cc h)

once : (n : ℕ) → n ≡ 1 * n
once n = omega arith

-- so many times these parts, where they have so many bits
joins : (names : List Entry) (count : ℕ) (parts : List Expr) → PartsSound names parts → is_between_1_and_128 (Some (count * all_width names parts)) ≡ true →
    can_join names count (map (judged names) parts) ≡ true
joins names count parts s h =
    and_from (list_all (λ (x : Judged). not (is_unsized_number (number_by_itself x.0))) (map (judged names) parts))
    (is_between_1_and_128 (Some (count * all_width names (judged_exprs (map (judged names) parts))))) s.sized
    (ap (λ (xs : List Expr). is_between_1_and_128 (Some (count * all_width names xs))) (themselves (is_sound names) parts) ∙ h)

proper_bounds : (e : Entry) (p q : Bool) (msb lsb : Option ℕ) → is_part e (if p then msb else None) (if q then lsb else None) ≡ true → (p && q && is_part e msb lsb) ≡ true
proper_bounds e true true msb lsb h = h
proper_bounds e true false None lsb h = absurd (cc h)
proper_bounds e true false (Some msb) lsb h = absurd (cc h)
proper_bounds e false q msb lsb h = absurd (cc h)

-- ---- each variant

conditional_sound : (names : List Entry) (c x y : Held names) → AreKept names (marks_layer names (o.Conditional c.0 x.0 y.0)) → sound_layer names (o.Conditional c.0 x.0 y.0) ≡ true
unfolding IsJudged
conditional_sound names c x y h =
    let both = kept_left names (marks_of names c.0 ++ marks_of names x.0) (marks_of names y.0) h in
    and_from (is_sound names c.0 && is_sound names x.0) (is_sound names y.0)
    (and_from (is_sound names c.0) (is_sound names x.0) (c.1 (kept_left names (marks_of names c.0) (marks_of names x.0) both)) (x.1 (kept_right names (marks_of names c.0) (marks_of names x.0) both)))
    (y.1 (kept_right names (marks_of names c.0 ++ marks_of names x.0) (marks_of names y.0) h))

chain_sound : (names : List Entry) (x : Held names) (ls : List (BinaryOperator × Held names)) → AreKept names (marks_layer names (o.Chain x.0 (map (plain_link names) ls))) →
    sound_layer names (o.Chain x.0 (map (plain_link names) ls)) ≡ true
unfolding IsJudged
chain_sound names x ls h =
    let more : List Mark = links_marks (map (link_of (marked names)) (map (plain_link names) ls)) in
    and_from (is_sound names x.0) (list_all (λ (l : BinaryOperator × Judged). l.1.1) (map (link_of (judged names)) (map (plain_link names) ls)))
    (x.1 (kept_left names (marks_of names x.0) more h)) (links_sound names ls (kept_right names (marks_of names x.0) more h))

concat_sound : (names : List Entry) (brace : ℕ) (xs : List (Held names)) → AreKept names (marks_layer names (o.Concat brace (map (plain names) xs))) →
    sound_layer names (o.Concat brace (map (plain names) xs)) ≡ true
concat_sound names brace xs h =
    let parts : List Expr = map (plain names) xs in
    let s = parts_sound names xs h.1 in
    let between = bits_between (are_definite names parts) (all_width names parts)
    (sym (ap (λ (ys : List Expr). is_between_1_and_128 (concat_bits names ys)) (themselves (marks_of names) parts)) ∙ h.0) in
    and_from (are_sound (map (judged names) parts)) (can_join names 1 (map (judged names) parts)) s.sound
    (joins names 1 parts s (sym (ap (λ (n : ℕ). is_between_1_and_128 (Some n)) (once (all_width names parts))) ∙ between))

replicate_sound : (names : List Entry) (brace count_at inner : ℕ) (c : Held names) (xs : List (Held names)) →
    AreKept names (marks_layer names (o.Replicate brace count_at c.0 inner (map (plain names) xs))) → sound_layer names (o.Replicate brace count_at c.0 inner (map (plain names) xs)) ≡ true
replicate_sound names brace count_at inner c xs h =
    let parts : List Expr = map (plain names) xs in
    let s = parts_sound names xs (kept_right names (marks_of names c.0) (parts_marks (map (marked names) parts)) h.1) in
    let width : ℕ = or_zero (constant_value names c.0) * all_width names parts in
    let joined = sym (ap (λ (ys : List Expr). is_between_1_and_128 (replicated_bits names c.0 ys)) (themselves (marks_of names) parts)) ∙ h.0 in
    let count = (and_parts (is_count names c.0) (are_definite names parts) (bits_definite (is_count names c.0 && are_definite names parts) width joined)).0 in
    and_from (is_count names c.0 && are_sound (map (judged names) parts)) (can_join names (or_zero (constant_value names c.0)) (map (judged names) parts))
    (and_from (is_count names c.0) (are_sound (map (judged names) parts)) count s.sound)
    (joins names (or_zero (constant_value names c.0)) parts s (bits_between (is_count names c.0 && are_definite names parts) width joined))

layer_judged : (names : List Entry) (x : Expr-F Expr) (y : Expr-F ((x : Expr) × IsJudged names x)) → map-Expr ((x : Expr) × IsJudged names x) Expr (λ e. e.0) y ≡ x → IsJudged names (roll-Expr x)
unfolding IsJudged
layer_judged names x (o.Number n) is = subst (λ z. IsJudged names (roll-Expr z)) is (rolled names (o.Number n) (λ h. h.0))
layer_judged names x (o.Name n) is = subst (λ z. IsJudged names (roll-Expr z)) is (rolled names (o.Name n) (λ h. refl))
layer_judged names x (o.Select n bracket index) is = subst (λ z. IsJudged names (roll-Expr z)) is (rolled names (o.Select n bracket index.0) (λ h. index.1 h.1))
layer_judged names x (o.Part n bracket ma m la l) is =
    subst (λ z. IsJudged names (roll-Expr z)) is
    (rolled names (o.Part n bracket ma m.0 la l.0)
    (λ h. proper_bounds (entry_of names n.name) (is_proper names m.0) (is_proper names l.0) (constant_value names m.0) (constant_value names l.0) h.0))
layer_judged names x (o.Unary op e) is = subst (λ z. IsJudged names (roll-Expr z)) is (rolled names (o.Unary op e.0) e.1)
layer_judged names x (o.Cast sign e) is = subst (λ z. IsJudged names (roll-Expr z)) is (rolled names (o.Cast sign e.0) e.1)
layer_judged names x (o.Conditional c t e) is = subst (λ z. IsJudged names (roll-Expr z)) is (rolled names (o.Conditional c.0 t.0 e.0) (conditional_sound names c t e))
layer_judged names x (o.Chain e ls) is = subst (λ z. IsJudged names (roll-Expr z)) is (rolled names (o.Chain e.0 (map (plain_link names) ls)) (chain_sound names e ls))
layer_judged names x (o.Concat brace xs) is = subst (λ z. IsJudged names (roll-Expr z)) is (rolled names (o.Concat brace (map (plain names) xs)) (concat_sound names brace xs))
layer_judged names x (o.Replicate brace ca c inner xs) is =
    subst (λ z. IsJudged names (roll-Expr z)) is (rolled names (o.Replicate brace ca c.0 inner (map (plain names) xs)) (replicate_sound names brace ca inner c xs))

pub sound_expr : (names : List Entry) (x : Expr) → AreKept names (marks_of names x) → is_sound names x ≡ true
unfolding IsJudged
sound_expr names x h = let all : (x : Expr) → IsJudged names x = ind-Expr (IsJudged names) (layer_judged names) in all x h

-- ---- numbers by themselves

-- The marks of an item of a casez that is a number by itself are those of the number.
IsCounted : List Entry → Expr → Type 0
IsCounted names x = AreKept names (item_digits (number_by_itself x) (marks_of names x)) → AreKept names (marks_of names x)

other_counted : (names : List Entry) (x : Expr-F Expr) → number_at_top (map-Expr Expr (Option Number) number_by_itself x) ≡ None → IsCounted names (roll-Expr x)
unfolding IsCounted
other_counted names x is h =
    subst (λ (n : Option Number). AreKept names (item_digits n (marks_of names (roll-Expr x)))) (fold-roll-Expr (Option Number) number_at_top x ∙ is) h

number_counted : (names : List Entry) (n : Number) → IsCounted names (roll-Expr (o.Number n))
unfolding IsCounted
number_counted names n h =
    subst (λ (marks : List Mark). AreKept names marks) (sym (para-roll-Expr (List Mark) (mark_step names) (o.Number n)))
    (subst (λ (one : Option Number). AreKept names (item_digits one (marks_of names (roll-Expr (o.Number n))))) (fold-roll-Expr (Option Number) number_at_top (o.Number n)) h)

layer_counted : (names : List Entry) (x : Expr-F Expr) (y : Expr-F ((x : Expr) × IsCounted names x)) → map-Expr ((x : Expr) × IsCounted names x) Expr (λ e. e.0) y ≡ x → IsCounted names (roll-Expr x)
layer_counted names (o.Number n) y is = number_counted names n
layer_counted names (o.Name n) y is = other_counted names (o.Name n) refl
layer_counted names (o.Select n bracket index) y is = other_counted names (o.Select n bracket index) refl
layer_counted names (o.Part n bracket ma m la l) y is = other_counted names (o.Part n bracket ma m la l) refl
layer_counted names (o.Unary op e) y is = other_counted names (o.Unary op e) refl
layer_counted names (o.Cast sign e) y is = other_counted names (o.Cast sign e) refl
layer_counted names (o.Conditional c t e) y is = other_counted names (o.Conditional c t e) refl
layer_counted names (o.Chain e ls) y is = other_counted names (o.Chain e ls) refl
layer_counted names (o.Concat brace xs) y is = other_counted names (o.Concat brace xs) refl
layer_counted names (o.Replicate brace ca c inner xs) y is = other_counted names (o.Replicate brace ca c inner xs) refl

pub sound_item : (names : List Entry) (kind : CaseKind) (x : Expr) → AreKept names (item_marks names kind x) → is_sound names x ≡ true
unfolding IsCounted
sound_item names c.Case x h = sound_expr names x h
sound_item names c.Casez x h = let all : (x : Expr) → IsCounted names x = ind-Expr (IsCounted names) (layer_counted names) in sound_expr names x (all x h)
