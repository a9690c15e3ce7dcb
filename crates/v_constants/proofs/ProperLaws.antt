-- Which expressions are constant with a proper value, variant by variant.
use Rattle.std.proofs.Common.{◌≡◌, ap, sym, ◌∙◌, refl, ℕ, ◌*◌, List, [], ◌∷◌, map, Bool, true, false}
use Rattle.std.specs.Prelude.{◌&&◌, not, Some}
use Rattle.std.specs.List.{list_all}
use Rattle.std.proofs.lemmas.List.Folds.{list_all-map}
use Rattle.v_syntax.specs.declared.token.Ident.{Ident}
use Rattle.v_syntax.specs.declared.token.Cast.{Cast}
use Rattle.v_syntax.specs.declared.expr.Expr.{Expr}
use Rattle.v_syntax.specs.declared.expr.Expr.TheVariants as e
use Rattle.v_syntax.specs.declared.expr.Expr.TheOpen as o
use Rattle.v_syntax.specs.declared.expr.Expr.TheFolds.{fold-roll-Expr, para-roll-Expr}
use Rattle.v_syntax.specs.declared.expr.Number.{Number}
use Rattle.v_syntax.specs.declared.expr.UnaryOperator.{UnaryOperator}
use Rattle.v_syntax.specs.declared.expr.BinaryOperator.{BinaryOperator}
use Rattle.v_meaning.specs.Literals.{is_wrong_number, digit_in, is_x, is_z}
use Rattle.v_meaning.specs.Senses.{Sense, constant, joined}
use Rattle.v_meaning.specs.declared.names.Entry.{Entry}
use Rattle.v_meaning.specs.Names.{entry_of, or_zero}
use Rattle.v_meaning.specs.Expressions.{is_parameter, all_links, constant_step, is_constant, number_by_itself}
use Rattle.v_meaning.specs.Proper.{Judged, judged_exprs, is_unsized_number, is_between_1_and_128, all_width, can_join, are_sound, sound_step, is_sound, is_proper}
use Rattle.v_constants.specs.Constants.{constant_sense}
use Rattle.v_constants.specs.Verdicts.{is_part, senses, are_links_proper, are_parts}
use Rattle.v_constants.proofs.SenseLaws.{joined_is}

two : {a b c d : Bool} → a ≡ b → c ≡ d → (a && c) ≡ (b && d)
two p q = λ i. p i && q i

crossed : (b c d : Bool) → (b && (c && d)) ≡ (c && (b && d))
crossed true c d = refl
crossed false true d = refl
crossed false false d = refl

shuffled : (a b c d : Bool) → ((a && b) && (c && d)) ≡ ((a && c) && (b && d))
shuffled true b c d = crossed b c d
shuffled false b c d = refl

all_both : {X : Type 0} (f g : X → Bool) (xs : List X) → (list_all f xs && list_all g xs) ≡ list_all (λ x. f x && g x) xs
all_both f g [] = refl
all_both f g (x ∷ xs) = shuffled (f x) (list_all f xs) (g x) (list_all g xs) ∙ ap (λ (b : Bool). (f x && g x) && b) (all_both f g xs)

-- ---- constant and sound, each by its fold

pub proper_number : (names : List Entry) (n : Number) →
    is_proper names (e.Number n) ≡ (not (digit_in is_x n.spelling) && not (digit_in is_z n.spelling) && not (is_wrong_number n.spelling))
proper_number names n =
    ap (is_proper names) (sym (e.rolls-Number n))
    ∙ two (fold-roll-Expr Bool (constant_step names) (o.Number n)) (para-roll-Expr Bool (sound_step names) (o.Number n))

and_true : (b : Bool) → (b && true) ≡ b
and_true true = refl
and_true false = refl

pub proper_name : (names : List Entry) (n : Ident) → is_proper names (e.Name n) ≡ is_parameter (entry_of names n.name).kind
proper_name names n =
    ap (is_proper names) (sym (e.rolls-Name n))
    ∙ two (fold-roll-Expr Bool (constant_step names) (o.Name n)) (para-roll-Expr Bool (sound_step names) (o.Name n))
    ∙ and_true (is_parameter (entry_of names n.name).kind)

pub proper_unary : (names : List Entry) (x a b : Expr) (op : UnaryOperator) → x ≡ e.Unary op a → b ≡ a → is_proper names x ≡ is_proper names b
proper_unary names x a b op is p =
    ap (is_proper names) (is ∙ sym (e.rolls-Unary op a))
    ∙ two (fold-roll-Expr Bool (constant_step names) (o.Unary op a)) (para-roll-Expr Bool (sound_step names) (o.Unary op a)) ∙ sym (ap (is_proper names) p)

pub proper_cast : (names : List Entry) (x a b : Expr) (sign : Cast) → x ≡ e.Cast sign a → b ≡ a → is_proper names x ≡ is_proper names b
proper_cast names x a b sign is p =
    ap (is_proper names) (is ∙ sym (e.rolls-Cast sign a))
    ∙ two (fold-roll-Expr Bool (constant_step names) (o.Cast sign a)) (para-roll-Expr Bool (sound_step names) (o.Cast sign a)) ∙ sym (ap (is_proper names) p)

pub proper_conditional : (names : List Entry) (x c a b c' a' b' : Expr) → x ≡ e.Conditional c a b → c' ≡ c → a' ≡ a → b' ≡ b →
    is_proper names x ≡ (is_proper names c' && is_proper names a' && is_proper names b')
proper_conditional names x c a b c' a' b' is p q r =
    rw (p, q, r)
    (ap (is_proper names) (is ∙ sym (e.rolls-Conditional c a b))
    ∙ two (fold-roll-Expr Bool (constant_step names) (o.Conditional c a b)) (para-roll-Expr Bool (sound_step names) (o.Conditional c a b))
    ∙ shuffled (is_constant names c && is_constant names a) (is_constant names b) (is_sound names c && is_sound names a) (is_sound names b)
    ∙ ap (λ (t : Bool). t && is_proper names b) (shuffled (is_constant names c) (is_constant names a) (is_sound names c) (is_sound names a)))

-- ---- chains

constant_links : (names : List Entry) (links : List (BinaryOperator × Expr)) →
    all_links (map (λ (l : BinaryOperator × Expr). (l.0, is_constant names l.1)) links) ≡ list_all (λ (l : BinaryOperator × Expr). is_constant names l.1) links
constant_links names [] = refl
constant_links names (l ∷ ls) = ap (λ (b : Bool). is_constant names l.1 && b) (constant_links names ls)

pub proper_chain : (names : List Entry) (x a b : Expr) (links more : List (BinaryOperator × Expr)) → x ≡ e.Chain a links → b ≡ a → more ≡ links →
    is_proper names x ≡ (is_proper names b && are_links_proper names more)
proper_chain names x a b links more is p q =
    rw (p, q)
    (ap (is_proper names) (is ∙ sym (e.rolls-Chain a links))
    ∙ two (fold-roll-Expr Bool (constant_step names) (o.Chain a links) ∙ ap (λ (t : Bool). is_constant names a && t) (constant_links names links))
    (para-roll-Expr Bool (sound_step names) (o.Chain a links)
    ∙ ap (λ (t : Bool). is_sound names a && t)
    (list_all-map (λ (l : BinaryOperator × Judged). l.1.1) (λ (l : BinaryOperator × Expr). (l.0, (l.1, is_sound names l.1))) links))
    ∙ shuffled (is_constant names a) (list_all (λ (l : BinaryOperator × Expr). is_constant names l.1) links) (is_sound names a) (list_all (λ (l : BinaryOperator × Expr). is_sound names l.1) links)
    ∙ ap (λ (t : Bool). is_proper names a && t) (all_both (λ (l : BinaryOperator × Expr). is_constant names l.1) (λ (l : BinaryOperator × Expr). is_sound names l.1) links))

-- ---- concatenations and replications

abbrev pub has_size : Expr → Bool
has_size x = not (is_unsized_number (number_by_itself x))

-- so many bits of so many parts
abbrev pub has_room : List Entry → ℕ → List Expr → Bool
has_room names count parts = is_between_1_and_128 (Some (count * (joined (senses names parts)).width))

abbrev pub judged : List Entry → List Expr → List Judged
judged names parts = map (λ (y : Expr). (y, is_sound names y)) parts

judged_back : (names : List Entry) (parts : List Expr) → judged_exprs (judged names parts) ≡ parts
judged_back names [] = refl
judged_back names (x ∷ xs) = ap (λ (r : List Expr). x ∷ r) (judged_back names xs)

room_is : (names : List Entry) (count : ℕ) (parts : List Expr) → is_between_1_and_128 (Some (count * all_width names (judged_exprs (judged names parts)))) ≡ has_room names count parts
room_is names count parts =
    ap (λ (xs : List Expr). is_between_1_and_128 (Some (count * all_width names xs))) (judged_back names parts)
    ∙ ap (λ (s : Sense). is_between_1_and_128 (Some (count * s.width))) (joined_is names parts)

joins_is : (names : List Entry) (count : ℕ) (parts : List Expr) → can_join names count (judged names parts) ≡ (list_all has_size parts && has_room names count parts)
joins_is names count parts =
    two (list_all-map (λ (x : Judged). has_size x.0) (λ (y : Expr). (y, is_sound names y)) parts) (room_is names count parts)

sound_is : (names : List Entry) (parts : List Expr) → are_sound (judged names parts) ≡ list_all (is_sound names) parts
sound_is names parts = list_all-map (λ (x : Judged). x.1) (λ (y : Expr). (y, is_sound names y)) parts

constant_is : (names : List Entry) (parts : List Expr) → list_all (λ (part : Bool). part) (map (is_constant names) parts) ≡ list_all (is_constant names) parts
constant_is names parts = list_all-map (λ (part : Bool). part) (is_constant names) parts

parts_are : (names : List Entry) (parts : List Expr) →
    (list_all has_size parts && (list_all (is_constant names) parts && list_all (is_sound names) parts)) ≡ list_all (is_part names) parts
parts_are names parts =
    ap (λ (b : Bool). list_all has_size parts && b) (all_both (is_constant names) (is_sound names) parts) ∙ all_both has_size (is_proper names) parts

grouped : (c s u w : Bool) → (c && (s && (u && w))) ≡ ((u && (c && s)) && w)
grouped true true true w = refl
grouped true true false w = refl
grouped true false true w = refl
grouped true false false w = refl
grouped false s true w = refl
grouped false s false w = refl

pub proper_concat : (names : List Entry) (x : Expr) (brace : ℕ) (parts more : List Expr) → x ≡ e.Concat brace parts → more ≡ parts →
    is_proper names x ≡ are_parts names 1 more
proper_concat names x brace parts more is p =
    rw p
    (ap (is_proper names) (is ∙ sym (e.rolls-Concat brace parts))
    ∙ two (fold-roll-Expr Bool (constant_step names) (o.Concat brace parts) ∙ constant_is names parts)
    (para-roll-Expr Bool (sound_step names) (o.Concat brace parts) ∙ two (sound_is names parts) (joins_is names 1 parts))
    ∙ grouped (list_all (is_constant names) parts) (list_all (is_sound names) parts) (list_all has_size parts) (has_room names 1 parts)
    ∙ ap (λ (b : Bool). b && has_room names 1 parts) (parts_are names parts))

grouped_behind : (k s b c t u w : Bool) → ((k && c) && ((((k && s) && b) && t) && (u && w))) ≡ (((k && s) && b) && ((u && (c && t)) && w))
grouped_behind true true true c t u w = grouped c t u w
grouped_behind true true false true t u w = refl
grouped_behind true true false false t u w = refl
grouped_behind true false b true t u w = refl
grouped_behind true false b false t u w = refl
grouped_behind false s b c t u w = refl

-- whether a number is a count
abbrev pub counts : List Entry → Expr → Bool
counts names n = is_between_1_and_128 (constant (constant_sense names n))

abbrev pub count_in : List Entry → Expr → ℕ
count_in names n = or_zero (constant (constant_sense names n))

pub proper_replicate : (names : List Entry) (x : Expr) (brace at : ℕ) (count n : Expr) (inner : ℕ) (parts more : List Expr) →
    x ≡ e.Replicate brace at count inner parts → n ≡ count → more ≡ parts →
    is_proper names x ≡ ((is_proper names n && counts names n) && are_parts names (count_in names n) more)
proper_replicate names x brace at count n inner parts more is p q =
    rw (p, q)
    (ap (is_proper names) (is ∙ sym (e.rolls-Replicate brace at count inner parts))
    ∙ two (fold-roll-Expr Bool (constant_step names) (o.Replicate brace at count inner parts) ∙ ap (λ (b : Bool). is_constant names count && b) (constant_is names parts))
    (para-roll-Expr Bool (sound_step names) (o.Replicate brace at count inner parts)
    ∙ two (ap (λ (b : Bool). (is_proper names count && counts names count) && b) (sound_is names parts)) (joins_is names (count_in names count) parts))
    ∙ grouped_behind (is_constant names count) (is_sound names count) (counts names count) (list_all (is_constant names) parts) (list_all (is_sound names) parts) (list_all has_size parts) (has_room names (count_in names count) parts)
    ∙ ap (λ (b : Bool). (is_proper names count && counts names count) && (b && has_room names (count_in names count) parts)) (parts_are names parts))
