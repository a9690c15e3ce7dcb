-- What a sound expression holds is sound.
use Rattle.std.proofs.Common.{◌≡◌, ◌<◌, ◌≤◌, ◌+◌, ◌*◌, ap, sym, subst, ◌∙◌, refl, ℕ, zero, suc, List, [], ◌∷◌, map, Bool, true, false, arith}
use Rattle.std.specs.Prelude.{◌&&◌, not, nat_le, nat_lt, if◌then◌else◌, is_some, Option, None, Some}
use Rattle.std.proofs.lemmas.Bool.{leb-true, le-leb, ltb-true}
use Rattle.std.proofs.lemmas.List.Folds.{list_all-map}
use Rattle.v_syntax.specs.declared.token.Ident.{Ident}
use Rattle.v_syntax.specs.declared.token.Cast.{Cast}
use Rattle.v_syntax.specs.declared.expr.Expr.{Expr}
use Rattle.v_syntax.specs.declared.expr.Expr.TheVariants as e
use Rattle.v_syntax.specs.declared.expr.Expr.TheOpen as o
use Rattle.v_syntax.specs.declared.expr.Expr.TheFolds.{para-roll-Expr}
use Rattle.v_syntax.specs.declared.expr.Number.{Number}
use Rattle.v_syntax.specs.declared.expr.UnaryOperator.{UnaryOperator}
use Rattle.v_syntax.specs.declared.expr.BinaryOperator.{BinaryOperator}
use Rattle.v_meaning.specs.Senses.{Sense, leaf, beside, joined_behind, joined}
use Rattle.v_meaning.specs.declared.names.Entry.{Entry}
use Rattle.v_meaning.specs.Names.{entry_of, or_zero}
use Rattle.v_meaning.specs.Literals.{is_wrong_number}
use Rattle.v_meaning.specs.Expressions.{sense_of}
use Rattle.v_meaning.specs.Declarations.{constant_value}
use Rattle.v_meaning.specs.Proper.{Judged, judged_exprs, all_width, are_sound, can_join, is_between_1_and_128, is_part, sound_step, is_sound, is_proper, proper_value}
use Rattle.v_core.specs.declared.open.Open.{Open}
use Rattle.v_core.specs.Bodies.{sense_in}
use Rattle.v_typing.specs.Meanings.{meanings}
use Rattle.v_typing.specs.Sound.{all_sound, links_sound}
use Rattle.v_typing.proofs.Sites.{same}

pub first_of : (a b : Bool) → (a && b) ≡ true → a ≡ true
first_of true b h = refl
first_of false b h = absurd (cc h)

pub second_of : (a b : Bool) → (a && b) ≡ true → b ≡ true
second_of true b h = h
second_of false b h = absurd (cc h)

not_true : (b : Bool) → not b ≡ true → b ≡ false
not_true true h = absurd (cc h)
not_true false h = refl

pub sound_number : (names : List Entry) (x : Expr) (n : Number) → x ≡ e.Number n → is_sound names x ≡ true → is_wrong_number n.spelling ≡ false
sound_number names x n is h =
    not_true (is_wrong_number n.spelling) (sym (ap (is_sound names) (is ∙ sym (e.rolls-Number n)) ∙ para-roll-Expr Bool (sound_step names) (o.Number n)) ∙ h)

pub sound_select : (names : List Entry) (x index i : Expr) (n : Ident) (bracket : ℕ) → x ≡ e.Select n bracket index → i ≡ index → is_sound names x ≡ true → is_sound names i ≡ true
sound_select names x index i n bracket is p h =
    ap (is_sound names) p ∙ sym (ap (is_sound names) (is ∙ sym (e.rolls-Select n bracket index)) ∙ para-roll-Expr Bool (sound_step names) (o.Select n bracket index)) ∙ h

pub sound_unary : (names : List Entry) (x a b : Expr) (op : UnaryOperator) → x ≡ e.Unary op a → b ≡ a → is_sound names x ≡ true → is_sound names b ≡ true
sound_unary names x a b op is p h =
    ap (is_sound names) p ∙ sym (ap (is_sound names) (is ∙ sym (e.rolls-Unary op a)) ∙ para-roll-Expr Bool (sound_step names) (o.Unary op a)) ∙ h

pub sound_cast : (names : List Entry) (x a b : Expr) (sign : Cast) → x ≡ e.Cast sign a → b ≡ a → is_sound names x ≡ true → is_sound names b ≡ true
sound_cast names x a b sign is p h =
    ap (is_sound names) p ∙ sym (ap (is_sound names) (is ∙ sym (e.rolls-Cast sign a)) ∙ para-roll-Expr Bool (sound_step names) (o.Cast sign a)) ∙ h

conditional : (names : List Entry) (x c a b : Expr) → x ≡ e.Conditional c a b → is_sound names x ≡ true → (is_sound names c && is_sound names a && is_sound names b) ≡ true
conditional names x c a b is h =
    sym (ap (is_sound names) (is ∙ sym (e.rolls-Conditional c a b)) ∙ para-roll-Expr Bool (sound_step names) (o.Conditional c a b)) ∙ h

pub sound_condition : (names : List Entry) (x c a b d : Expr) → x ≡ e.Conditional c a b → d ≡ c → is_sound names x ≡ true → is_sound names d ≡ true
sound_condition names x c a b d is p h = ap (is_sound names) p ∙ first_of _ (is_sound names a) (first_of _ (is_sound names b) (conditional names x c a b is h))

pub sound_then : (names : List Entry) (x c a b d : Expr) → x ≡ e.Conditional c a b → d ≡ a → is_sound names x ≡ true → is_sound names d ≡ true
sound_then names x c a b d is p h = ap (is_sound names) p ∙ second_of (is_sound names c) _ (first_of _ (is_sound names b) (conditional names x c a b is h))

pub sound_otherwise : (names : List Entry) (x c a b d : Expr) → x ≡ e.Conditional c a b → d ≡ b → is_sound names x ≡ true → is_sound names d ≡ true
sound_otherwise names x c a b d is p h = ap (is_sound names) p ∙ second_of (is_sound names c && is_sound names a) _ (conditional names x c a b is h)

-- ---- chains

chain : (names : List Entry) (x a : Expr) (links : List (BinaryOperator × Expr)) → x ≡ e.Chain a links → is_sound names x ≡ true →
    (is_sound names a && links_sound names links) ≡ true
chain names x a links is h =
    sym
    (ap (is_sound names) (is ∙ sym (e.rolls-Chain a links)) ∙ para-roll-Expr Bool (sound_step names) (o.Chain a links)
    ∙ ap (λ (b : Bool). is_sound names a && b)
    (list_all-map (λ (l : BinaryOperator × Judged). l.1.1) (λ (l : BinaryOperator × Expr). (l.0, (l.1, is_sound names l.1))) links))
    ∙ h

pub sound_first : (names : List Entry) (x a b : Expr) (links : List (BinaryOperator × Expr)) → x ≡ e.Chain a links → b ≡ a → is_sound names x ≡ true → is_sound names b ≡ true
sound_first names x a b links is p h = ap (is_sound names) p ∙ first_of (is_sound names a) (links_sound names links) (chain names x a links is h)

pub sound_links : (names : List Entry) (x a : Expr) (links more : List (BinaryOperator × Expr)) → x ≡ e.Chain a links → more ≡ links → is_sound names x ≡ true → links_sound names more ≡ true
sound_links names x a links more is p h = ap (links_sound names) p ∙ second_of (is_sound names a) (links_sound names links) (chain names x a links is h)

-- ---- concatenations

abbrev pub judged : List Entry → List Expr → List Judged
judged names parts = map (λ (y : Expr). (y, is_sound names y)) parts

judged_back : (names : List Entry) (parts : List Expr) → judged_exprs (judged names parts) ≡ parts
judged_back names [] = refl
judged_back names (x ∷ xs) = ap (λ (r : List Expr). x ∷ r) (judged_back names xs)

sound_parts_are : (names : List Entry) (parts : List Expr) → are_sound (judged names parts) ≡ all_sound names parts
sound_parts_are names parts = list_all-map (λ (x : Judged). x.1) (λ (y : Expr). (y, is_sound names y)) parts

-- the width of parts side by side is the same at any sites
width_behind : (names : List Entry) (sites : List ℕ) (s t : Sense) (parts : List Expr) → s.width ≡ t.width →
    (joined_behind s (meanings names sites parts)).width ≡ (joined_behind t (map (sense_of names []) parts)).width
width_behind names sites s t [] p = p
width_behind names sites s t (x ∷ xs) p =
    width_behind names sites (beside s (sense_of names sites x)) (beside t (sense_of names [] x)) xs (λ i. p i + (same names sites x i).width)

pub width_is : (names : List Entry) (sites : List ℕ) (parts : List Expr) → (joined (meanings names sites parts)).width ≡ all_width names parts
width_is names sites parts = width_behind names sites (leaf 0 false (λ v. 0)) (leaf 0 false (λ v. 0)) parts refl

at_most_128 : (n : ℕ) → is_between_1_and_128 (Some n) ≡ true → n ≤ 128
at_most_128 n h = leb-true n 128 (second_of (nat_le 1 n) (nat_le n 128) h)

-- what so many parts have together, if they can be joined
room : (names : List Entry) (count : ℕ) (parts : List Expr) → can_join names count (judged names parts) ≡ true → count * all_width names parts ≤ 128
room names count parts h =
    at_most_128 (count * all_width names parts)
    (sym (ap (λ (xs : List Expr). is_between_1_and_128 (Some (count * all_width names xs))) (judged_back names parts)) ∙ second_of _ _ h)

narrow_of : (names : List Entry) (sites : List ℕ) (count : ℕ) (parts : List Expr) → 1 ≤ count → count * all_width names parts ≤ 128 →
    nat_le (joined (meanings names sites parts)).width 128 ≡ true
narrow_of names sites zero parts some h = absurd (omega arith)
narrow_of names sites (suc count) parts some h = le-leb _ 128 (omega (arith, width_is names sites parts, h))

concat : (names : List Entry) (x : Expr) (brace : ℕ) (parts : List Expr) → x ≡ e.Concat brace parts → is_sound names x ≡ true →
    (are_sound (judged names parts) && can_join names 1 (judged names parts)) ≡ true
concat names x brace parts is h =
    sym (ap (is_sound names) (is ∙ sym (e.rolls-Concat brace parts)) ∙ para-roll-Expr Bool (sound_step names) (o.Concat brace parts)) ∙ h

pub sound_parts : (names : List Entry) (x : Expr) (brace : ℕ) (parts more : List Expr) → x ≡ e.Concat brace parts → more ≡ parts → is_sound names x ≡ true → all_sound names more ≡ true
sound_parts names x brace parts more is p h =
    ap (all_sound names) p ∙ sym (sound_parts_are names parts) ∙ first_of _ (can_join names 1 (judged names parts)) (concat names x brace parts is h)

pub sound_narrow : (names : List Entry) (sites : List ℕ) (x : Expr) (brace : ℕ) (parts more : List Expr) → x ≡ e.Concat brace parts → more ≡ parts → is_sound names x ≡ true →
    nat_le (joined (meanings names sites more)).width 128 ≡ true
sound_narrow names sites x brace parts more is p h =
    ap (λ (xs : List Expr). nat_le (joined (meanings names sites xs)).width 128) p
    ∙ narrow_of names sites 1 parts (omega arith) (room names 1 parts (second_of (are_sound (judged names parts)) _ (concat names x brace parts is h)))

-- ---- replications

replicate : (names : List Entry) (x : Expr) (brace at : ℕ) (count : Expr) (inner : ℕ) (parts : List Expr) → x ≡ e.Replicate brace at count inner parts → is_sound names x ≡ true →
    (is_proper names count && is_between_1_and_128 (constant_value names count) && are_sound (judged names parts) && can_join names (or_zero (constant_value names count)) (judged names parts)) ≡ true
replicate names x brace at count inner parts is h =
    sym
    (ap (is_sound names) (is ∙ sym (e.rolls-Replicate brace at count inner parts)) ∙ para-roll-Expr Bool (sound_step names) (o.Replicate brace at count inner parts))
    ∙ h

-- a number that is a count, of an expression that is proper
counted : (names : List Entry) (x : Expr) → is_proper names x ≡ true → is_between_1_and_128 (constant_value names x) ≡ true → is_between_1_and_128 (proper_value names x) ≡ true
counted names x p h = ap (λ (b : Bool). is_between_1_and_128 (if b then constant_value names x else None)) p ∙ h

pub sound_count : (names : List Entry) (x : Expr) (brace at : ℕ) (count n : Expr) (inner : ℕ) (parts : List Expr) → x ≡ e.Replicate brace at count inner parts → n ≡ count →
    is_sound names x ≡ true → is_between_1_and_128 (proper_value names n) ≡ true
sound_count names x brace at count n inner parts is p h =
    let all = first_of _ (are_sound (judged names parts)) (first_of _ (can_join names (or_zero (constant_value names count)) (judged names parts)) (replicate names x brace at count inner parts is h)) in
    ap (λ (z : Expr). is_between_1_and_128 (proper_value names z)) p
    ∙ counted names count (first_of (is_proper names count) (is_between_1_and_128 (constant_value names count)) all) (second_of (is_proper names count) (is_between_1_and_128 (constant_value names count)) all)

pub sound_inner : (names : List Entry) (x : Expr) (brace at : ℕ) (count : Expr) (inner : ℕ) (parts more : List Expr) → x ≡ e.Replicate brace at count inner parts → more ≡ parts →
    is_sound names x ≡ true → all_sound names more ≡ true
sound_inner names x brace at count inner parts more is p h =
    ap (all_sound names) p ∙ sym (sound_parts_are names parts)
    ∙ second_of (is_proper names count && is_between_1_and_128 (constant_value names count)) (are_sound (judged names parts))
    (first_of _ (can_join names (or_zero (constant_value names count)) (judged names parts)) (replicate names x brace at count inner parts is h))

one_at_least : (o : Option ℕ) → is_between_1_and_128 o ≡ true → 1 ≤ or_zero o
one_at_least None h = absurd (cc h)
one_at_least (Some n) h = leb-true 1 n (first_of (nat_le 1 n) (nat_le n 128) h)

pub sound_inner_narrow : (names : List Entry) (sites : List ℕ) (x : Expr) (brace at : ℕ) (count : Expr) (inner : ℕ) (parts more : List Expr) → x ≡ e.Replicate brace at count inner parts → more ≡ parts →
    is_sound names x ≡ true → nat_le (joined (meanings names sites more)).width 128 ≡ true
sound_inner_narrow names sites x brace at count inner parts more is p h =
    ap (λ (xs : List Expr). nat_le (joined (meanings names sites xs)).width 128) p
    ∙ narrow_of names sites (or_zero (constant_value names count)) parts
    (one_at_least (constant_value names count) (second_of (is_proper names count) _ (first_of _ (are_sound (judged names parts))
    (first_of _ (can_join names (or_zero (constant_value names count)) (judged names parts)) (replicate names x brace at count inner parts is h)))))
    (room names (or_zero (constant_value names count)) parts (second_of (is_proper names count && is_between_1_and_128 (constant_value names count) && are_sound (judged names parts)) _
    (replicate names x brace at count inner parts is h)))

value_if : (b : Bool) (o : Option ℕ) (k : ℕ) → (if b then o else None) ≡ Some k → or_zero o ≡ k
value_if true o k is = ap or_zero is
value_if false o k is = absurd (cc is)

pub some_count : (o : Option ℕ) → is_between_1_and_128 o ≡ true → is_some o ≡ true
some_count None h = absurd (cc h)
some_count (Some n) h = refl

pub count_within : (o : Option ℕ) (n : ℕ) → o ≡ Some n → is_between_1_and_128 o ≡ true → n ≤ 128
count_within o n is h = at_most_128 n (sym (ap is_between_1_and_128 is) ∙ h)

-- all copies of the word of the parts
pub sound_room : (names : List Entry) (sites : List ℕ) (x : Expr) (brace at : ℕ) (count n : Expr) (inner : ℕ) (parts more : List Expr) (o : Open) → x ≡ e.Replicate brace at count inner parts →
    n ≡ count → more ≡ parts → sense_in o names ≡ joined (meanings names sites more) → is_sound names x ≡ true → or_zero (constant_value names n) * o.width ≤ 128
sound_room names sites x brace at count n inner parts more o is p q word h =
    let width : o.width ≡ all_width names parts =
    ap (λ (s : Sense). s.width) word ∙ ap (λ (xs : List Expr). (joined (meanings names sites xs)).width) q ∙ width_is names sites parts in
    let all : or_zero (constant_value names n) * o.width ≡ or_zero (constant_value names count) * all_width names parts = λ i. or_zero (constant_value names (p i)) * width i in
    subst (λ (k : ℕ). k ≤ 128) (sym all)
    (room names (or_zero (constant_value names count)) parts (second_of (is_proper names count && is_between_1_and_128 (constant_value names count) && are_sound (judged names parts)) _
    (replicate names x brace at count inner parts is h)))

-- the number of what is proper
pub value_of : (names : List Entry) (x : Expr) (k : ℕ) → proper_value names x ≡ Some k → k ≡ or_zero (constant_value names x)
value_of names x k is = sym (value_if (is_proper names x) (constant_value names x) k is)

-- ---- parts of vectors

proper_both : (names : List Entry) (e : Entry) (m l : Expr) → (is_proper names m && is_proper names l && is_part e (constant_value names m) (constant_value names l)) ≡ true →
    is_part e (proper_value names m) (proper_value names l) ≡ true
proper_both names e m l h =
    ap (λ (b : Bool). is_part e (if b then constant_value names m else None) (proper_value names l))
    (first_of (is_proper names m) (is_proper names l) (first_of _ (is_part e (constant_value names m) (constant_value names l)) h))
    ∙ ap (λ (b : Bool). is_part e (constant_value names m) (if b then constant_value names l else None))
    (second_of (is_proper names m) (is_proper names l) (first_of _ (is_part e (constant_value names m) (constant_value names l)) h))
    ∙ second_of (is_proper names m && is_proper names l) _ h

pub sound_part : (names : List Entry) (x msb lsb m l : Expr) (n : Ident) (bracket msb_at lsb_at : ℕ) → x ≡ e.Part n bracket msb_at msb lsb_at lsb → m ≡ msb → l ≡ lsb → is_sound names x ≡ true →
    is_part (entry_of names n.name) (proper_value names m) (proper_value names l) ≡ true
sound_part names x msb lsb m l n bracket msb_at lsb_at is p q h =
    rw (p, q)
    (proper_both names (entry_of names n.name) msb lsb
    (sym (ap (is_sound names) (is ∙ sym (e.rolls-Part n bracket msb_at msb lsb_at lsb)) ∙ para-roll-Expr Bool (sound_step names) (o.Part n bracket msb_at msb lsb_at lsb)) ∙ h))

pub some_bound : (e : Entry) (a b : Option ℕ) → is_part e a b ≡ true → is_some a ≡ true
some_bound e None None h = absurd (cc h)
some_bound e None (Some n) h = absurd (cc h)
some_bound e (Some n) b h = refl

pub some_other : (e : Entry) (a b : Option ℕ) → is_part e a b ≡ true → is_some b ≡ true
some_other e None None h = absurd (cc h)
some_other e (Some n) None h = absurd (cc h)
some_other e a (Some n) h = refl

-- bounds that descend within the declared range
pub record AreBounds (e : Entry) (i j : ℕ) : Type 0 where
  pub above : e.low ≤ j
  pub descends : j ≤ i
  pub within : i < e.low + e.width

bounds_of : (e : Entry) (i j : ℕ) → is_part e (Some i) (Some j) ≡ true → AreBounds e i j
bounds_of e i j h = record {
  above = leb-true e.low j (first_of (nat_le e.low j) (nat_le j i) (first_of (nat_le e.low j && nat_le j i) (nat_lt i (e.low + e.width)) h));
  descends = leb-true j i (second_of (nat_le e.low j) (nat_le j i) (first_of (nat_le e.low j && nat_le j i) (nat_lt i (e.low + e.width)) h));
  within = ltb-true i (e.low + e.width) (second_of (nat_le e.low j && nat_le j i) (nat_lt i (e.low + e.width)) h);
}

pub part_bounds : (e : Entry) (a b : Option ℕ) (i j : ℕ) → a ≡ Some i → b ≡ Some j → is_part e a b ≡ true → AreBounds e i j
part_bounds e a b i j p q h = bounds_of e i j (sym (λ k. is_part e (p k) (q k)) ∙ h)

-- ---- what is joined has a bit at least

positive : (n k : ℕ) → 1 ≤ n * k → 1 ≤ k
positive n zero h = absurd (omega (arith, h))
positive n (suc k) h = omega arith

some_width : (names : List Entry) (sites : List ℕ) (count : ℕ) (parts more : List Expr) (o : Open) → more ≡ parts → sense_in o names ≡ joined (meanings names sites more) →
    can_join names count (judged names parts) ≡ true → 1 ≤ o.width
some_width names sites count parts more o q word h =
    let width : o.width ≡ all_width names parts =
    ap (λ (s : Sense). s.width) word ∙ ap (λ (xs : List Expr). (joined (meanings names sites xs)).width) q ∙ width_is names sites parts in
    let all : is_between_1_and_128 (Some (count * all_width names parts)) ≡ true =
    sym (ap (λ (xs : List Expr). is_between_1_and_128 (Some (count * all_width names xs))) (judged_back names parts)) ∙ second_of _ _ h in
    let some : 1 ≤ all_width names parts =
    positive count (all_width names parts) (leb-true 1 _ (first_of (nat_le 1 (count * all_width names parts)) (nat_le (count * all_width names parts) 128) all)) in
    omega (arith, width, some)

pub sound_some : (names : List Entry) (sites : List ℕ) (x : Expr) (brace : ℕ) (parts more : List Expr) (o : Open) → x ≡ e.Concat brace parts → more ≡ parts →
    sense_in o names ≡ joined (meanings names sites more) → is_sound names x ≡ true → 1 ≤ o.width
sound_some names sites x brace parts more o is p word h =
    some_width names sites 1 parts more o p word (second_of (are_sound (judged names parts)) _ (concat names x brace parts is h))

pub sound_inner_some : (names : List Entry) (sites : List ℕ) (x : Expr) (brace at : ℕ) (count : Expr) (inner : ℕ) (parts more : List Expr) (o : Open) →
    x ≡ e.Replicate brace at count inner parts → more ≡ parts → sense_in o names ≡ joined (meanings names sites more) → is_sound names x ≡ true → 1 ≤ o.width
sound_inner_some names sites x brace at count inner parts more o is p word h =
    some_width names sites (or_zero (constant_value names count)) parts more o p word
    (second_of (is_proper names count && is_between_1_and_128 (constant_value names count) && are_sound (judged names parts)) _ (replicate names x brace at count inner parts is h))

pub count_some : (o : Option ℕ) (n : ℕ) → o ≡ Some n → is_between_1_and_128 o ≡ true → 1 ≤ n
count_some o n is h = leb-true 1 n (first_of (nat_le 1 n) (nat_le n 128) (sym (ap is_between_1_and_128 is) ∙ h))
