-- What functions answer that open constants, step by step.
use Rattle.std.proofs.Common.{◌≡◌, ◌<◌, ◌≤◌, ◌+◌, ◌*◌, ◌&&◌, ap, sym, ◌∙◌, refl, subst, ℕ, zero, suc, length, get_or, drop, List, [], ◌∷◌, Bool, true, false, arith}
use Rattle.std.specs.Prelude.{◌^◌, nat_le, if◌then◌else◌, Option, None, Some, Result, Ok, Err, IsErrAnd}
use Rattle.std.specs.List.{list_all}
use Rattle.std.proofs.lemmas.Bool.{leb-true, le-leb}
use Rattle.std.proofs.lemmas.List.{drop_all}
use Rattle.lz_base.specs.WordValue.{WordValue}
use Rattle.v_syntax.specs.declared.token.Ident.{Ident}
use Rattle.v_syntax.specs.declared.expr.Number.{Number}
use Rattle.v_syntax.specs.declared.expr.Expr.{Expr}
use Rattle.v_syntax.specs.declared.expr.Expr.TheVariants as e
use Rattle.v_syntax.specs.declared.expr.BinaryOperator.{BinaryOperator}
use Rattle.v_meaning.specs.Views.{View, no_view}
use Rattle.v_meaning.specs.Literals.{literal_of, literal_value}
use Rattle.v_meaning.specs.declared.literal.Literal.{Literal}
use Rattle.v_meaning.specs.Senses.{Sense, leaf, constant, beside, joined_behind, joined, chained, operated}
use Rattle.v_meaning.specs.declared.names.Kind.{Kind}
use Rattle.v_meaning.specs.declared.names.Kind.TheVariants.{Parameter, Clock, Input, Net, Combinational, Variable, Memory}
use Rattle.v_meaning.specs.declared.names.Entry.{Entry}
use Rattle.v_meaning.specs.Names.{entry_of, word_of}
use Rattle.v_meaning.specs.Expressions.{is_parameter}
use Rattle.v_meaning.specs.Declarations.{constant_value}
use Rattle.v_meaning.specs.Proper.{is_proper, proper_value, is_between_1_and_128}
use Rattle.v_constants.specs.declared.body.Open.{Open}
use Rattle.v_constants.specs.declared.miss.Miss.{Miss}
use Rattle.v_constants.specs.declared.miss.Miss.TheVariants as m
use Rattle.v_constants.specs.Bodies.{held, sense_in, IsOpen}
use Rattle.v_constants.specs.Constants.{constant_sense}
use Rattle.v_constants.specs.Verdicts.{Misses, IsOpened, Opens, IsCount, Joins, parameter_value, senses, link_senses, is_part, are_parts}
use Rattle.v_constants.proofs.Turns.{next_is, all_passed}
use Rattle.v_constants.proofs.OpenLaws.{both, not_second}
use Rattle.v_constants.proofs.SenseLaws.{sense_name, sense_number}
use Rattle.v_constants.proofs.ProperLaws.{proper_name}

-- ---- misses

misses : (p q : Bool) (e : Miss) → Misses p e → (p ≡ false → q ≡ false) → Misses q e
misses p q m.Improper h f = f h
misses p q m.OutOfMemory h f = tt

-- what is missed in a part is missed in the whole
pub missed : (p q : Bool) (s : Sense) (r : Result Open Miss) (e : Miss) → IsErrAnd r (λ (x : Miss). x ≡ e) → Misses p e → (p ≡ false → q ≡ false) → Opens q s r
missed p q s (Ok o) e is h f = absurd is
missed p q s (Err x) e is h f = rw is (misses p q e h f)

pub missed_word : (count : ℕ) (p q : Bool) (s : Sense) (r : Result WordValue Miss) (e : Miss) → IsErrAnd r (λ (x : Miss). x ≡ e) → Misses p e → (p ≡ false → q ≡ false) →
    Joins count q s r
missed_word count p q s (Ok o) e is h f = absurd is
missed_word count p q s (Err x) e is h f = rw is (misses p q e h f)

-- ---- names and numbers

value_is : (k : Kind) (value : ℕ) (v : View) → Some value ≡ parameter_value k → (is_parameter k ≡ true) × (value ≡ word_of k v)
value_is (Parameter n) value v is = (refl, cc is)
value_is Clock value v is = absurd (cc is)
value_is (Input k) value v is = absurd (cc is)
value_is (Net k) value v is = absurd (cc is)
value_is (Combinational k) value v is = absurd (cc is)
value_is (Variable k) value v is = absurd (cc is)
value_is (Memory k low count) value v is = absurd (cc is)

no_parameter : (k : Kind) → None ≡ parameter_value k → is_parameter k ≡ false
no_parameter (Parameter n) is = absurd (cc is)
no_parameter Clock is = refl
no_parameter (Input k) is = refl
no_parameter (Net k) is = refl
no_parameter (Combinational k) is = refl
no_parameter (Variable k) is = refl
no_parameter (Memory k low count) is = refl

pub name_opened : (names : List Entry) (n : Ident) (o : Open) (kind : Kind) (w : ℕ) (s : Bool) (value : ℕ) → sense_in o ≡ leaf w s (λ v. value) → IsOpen o →
    Some value ≡ parameter_value kind → kind ≡ (entry_of names n.name).kind → w ≡ (entry_of names n.name).width → s ≡ (entry_of names n.name).signed →
    IsOpened (is_proper names (e.Name n)) (constant_sense names (e.Name n)) o
name_opened names n o kind w s value is kept some of_kind width sign =
    let both : (is_parameter (entry_of names n.name).kind ≡ true) × (value ≡ word_of (entry_of names n.name).kind no_view) =
    value_is (entry_of names n.name).kind value no_view (some ∙ ap parameter_value of_kind) in
    record {
      is_proper = proper_name names n ∙ both.0;
      sense = is ∙ ap (λ (u : ℕ). leaf u s (λ v. value)) width ∙ ap (λ (b : Bool). leaf (entry_of names n.name).width b (λ v. value)) sign
          ∙ ap (λ (k : ℕ). leaf (entry_of names n.name).width (entry_of names n.name).signed (λ v. k)) both.1 ∙ sym (sense_name names n);
      kept = kept;
    }

pub name_missed : (names : List Entry) (n : Ident) (kind : Kind) → None ≡ parameter_value kind → kind ≡ (entry_of names n.name).kind → is_proper names (e.Name n) ≡ false
name_missed names n kind none of_kind = proper_name names n ∙ no_parameter (entry_of names n.name).kind (none ∙ ap parameter_value of_kind)

pub number_opened : (names : List Entry) (n : Number) (o : Open) (l : Literal) (value : ℕ) → sense_in o ≡ leaf l.width l.signed (λ v. value) → IsOpen o →
    value ≡ literal_value l 0 → l ≡ literal_of n.spelling → is_proper names (e.Number n) ≡ true → IsOpened (is_proper names (e.Number n)) (constant_sense names (e.Number n)) o
number_opened names n o l value is kept p q proper = record {
  is_proper = proper;
  sense = is ∙ ap (λ (k : ℕ). leaf l.width l.signed (λ v. k)) p ∙ ap (λ (z : Literal). leaf z.width z.signed (λ v. literal_value z 0)) q ∙ sym (sense_number names n);
  kept = kept;
}

-- ---- chains

pub chained_next : (names : List Entry) (s t y whole : Sense) (links : List (BinaryOperator × Expr)) (i : ℕ) (l : BinaryOperator × Expr) →
    i < length links → l ≡ get_or links i l → y ≡ constant_sense names l.1 → t ≡ operated l.0 s y →
    chained s (link_senses names (drop i links)) ≡ whole → chained t (link_senses names (drop (i + 1) links)) ≡ whole
chained_next names s t y whole links i l h is p q before =
    ap (λ (z : Sense). chained z (link_senses names (drop (i + 1) links))) (q ∙ ap (operated l.0 s) p)
    ∙ sym (ap (λ (r : List (BinaryOperator × Expr)). chained s (link_senses names r)) (next_is links i l h is)) ∙ before

pub chained_done : (names : List Entry) (s whole : Sense) (links : List (BinaryOperator × Expr)) (i : ℕ) → length links ≤ i →
    chained s (link_senses names (drop i links)) ≡ whole → s ≡ whole
chained_done names s whole links i h before = sym (ap (λ (r : List (BinaryOperator × Expr)). chained s (link_senses names r)) (drop_all i links h)) ∙ before

-- ---- parts

same_in_both : (b : Bool) (n : ℕ) → (if b then n else n) ≡ n
same_in_both true n = refl
same_in_both false n = refl

-- a word, as a meaning
abbrev pub word_sense : ℕ → ℕ → Sense
word_sense width value = leaf width false (λ v. value)

beside_word : (width value : ℕ) (o : Open) (n next : ℕ) → n ≡ (held o.body).value o.width o.signed → next ≡ value * 2 ^ o.width + n →
    word_sense (width + o.width) next ≡ beside (word_sense width value) (sense_in o)
beside_word width value o n next p q =
    ap (word_sense (width + o.width)) (q ∙ ap (λ k. value * 2 ^ o.width + k) p)
    ∙ sym (ap (λ k. word_sense (width + o.width) (k * 2 ^ o.width + (held o.body).value o.width o.signed)) (same_in_both (nat_le width width) value))

pub joined_next : (names : List Entry) (parts : List Expr) (i : ℕ) (x : Expr) (width value : ℕ) (o : Open) (n next : ℕ) (whole : Sense) →
    i < length parts → x ≡ get_or parts i x → sense_in o ≡ constant_sense names x → n ≡ (held o.body).value o.width o.signed → next ≡ value * 2 ^ o.width + n →
    joined_behind (word_sense width value) (senses names (drop i parts)) ≡ whole →
    joined_behind (word_sense (width + o.width) next) (senses names (drop (i + 1) parts)) ≡ whole
joined_next names parts i x width value o n next whole h is p q r before =
    ap (λ (z : Sense). joined_behind z (senses names (drop (i + 1) parts))) (beside_word width value o n next q r ∙ ap (beside (word_sense width value)) p)
    ∙ sym (ap (λ (xs : List Expr). joined_behind (word_sense width value) (senses names xs)) (next_is parts i x h is)) ∙ before

width_grows : (s : Sense) (ss : List Sense) → s.width ≤ (joined_behind s ss).width
width_grows s [] = omega arith
width_grows s (y ∷ ys) = let h : s.width + y.width ≤ (joined_behind (beside s y) ys).width = width_grows (beside s y) ys in omega (arith, h)

at_least : (count width : ℕ) → 1 ≤ count → width ≤ count * width
at_least zero width h = absurd (omega arith)
at_least (suc count) width h = omega arith

over_128 : (b : Bool) (n : ℕ) → 128 < n → nat_le n 128 ≡ b → b ≡ false
over_128 false n h is = refl
over_128 true n h is = let small : n ≤ 128 = leb-true n 128 is in absurd (omega (arith, small))

pub too_wide : (names : List Entry) (count : ℕ) (parts : List Expr) (i : ℕ) (x : Expr) (width value : ℕ) (o : Open) (whole : Sense) →
    1 ≤ count → i < length parts → x ≡ get_or parts i x → sense_in o ≡ constant_sense names x →
    joined_behind (word_sense width value) (senses names (drop i parts)) ≡ whole → 128 < width + o.width → is_between_1_and_128 (Some (count * whole.width)) ≡ false
too_wide names count parts i x width value o whole some h is p before wide =
    let one : joined_behind (beside (word_sense width value) (constant_sense names x)) (senses names (drop (i + 1) parts)) ≡ whole =
    sym (ap (λ (xs : List Expr). joined_behind (word_sense width value) (senses names xs)) (next_is parts i x h is)) ∙ before in
    let grows : width + (constant_sense names x).width ≤ (joined_behind (beside (word_sense width value) (constant_sense names x)) (senses names (drop (i + 1) parts))).width =
    width_grows (beside (word_sense width value) (constant_sense names x)) (senses names (drop (i + 1) parts)) in
    let same : (joined_behind (beside (word_sense width value) (constant_sense names x)) (senses names (drop (i + 1) parts))).width ≡ whole.width = ap (λ (z : Sense). z.width) one in
    let own_width : o.width ≡ (constant_sense names x).width = ap (λ (z : Sense). z.width) p in
    not_second (nat_le 1 (count * whole.width)) (nat_le (count * whole.width) 128)
    (over_128 _ (count * whole.width) (omega (arith, grows, same, own_width, wide, at_least count whole.width some)) refl)

pub joined_done : (names : List Entry) (count : ℕ) (parts : List Expr) (i width value : ℕ) (r : Result WordValue Miss) → length parts ≤ i →
    joined_behind (word_sense width value) (senses names (drop i parts)) ≡ joined (senses names parts) → list_all (is_part names) (drop i parts) ≡ list_all (is_part names) parts →
    Joins count (is_between_1_and_128 (Some (count * width))) (word_sense width value) r → Joins count (are_parts names count parts) (joined (senses names parts)) r
joined_done names count parts i width value r h sense proper joins =
    let all : word_sense width value ≡ joined (senses names parts) =
    sym (ap (λ (xs : List Expr). joined_behind (word_sense width value) (senses names xs)) (drop_all i parts h)) ∙ sense in
    let passed : list_all (is_part names) parts ≡ true = all_passed (is_part names) parts i (list_all (is_part names) parts) h proper in
    subst (λ (b : Bool). Joins count b (joined (senses names parts)) r)
    (ap (λ (s : Sense). is_between_1_and_128 (Some (count * s.width))) all
    ∙ sym (ap (λ (b : Bool). b && is_between_1_and_128 (Some (count * (joined (senses names parts)).width))) passed))
    (subst (λ (s : Sense). Joins count (is_between_1_and_128 (Some (count * width))) s r) all joins)

-- ---- counts

pub count_between : (number : Option ℕ) (n : ℕ) → IsCount number n → is_between_1_and_128 number ≡ true
count_between number n h = ap is_between_1_and_128 h.counted ∙ both (nat_le 1 n) (nat_le n 128) (le-leb 1 n h.has_one) (le-leb n 128 h.within)

-- ---- the number

pub proper_is : (names : List Entry) (x : Expr) (o : Open) (r : Option ℕ) → IsOpened (is_proper names x) (constant_sense names x) o → r ≡ constant (sense_in o) → r ≡ proper_value names x
proper_is names x o r h is =
    is ∙ ap constant h.sense ∙ sym (ap (λ (b : Bool). if b then constant_value names x else None) h.is_proper)
