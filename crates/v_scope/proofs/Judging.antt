-- The rules of names, mark by mark.
use Rattle.std.proofs.Common.{◌≡◌, ◌<◌, ◌≤◌, ◌+◌, ℕ, List, [], ◌∷◌, ◌++◌, flat_map, length, drop, get_or, Bool, true, false, not, Option, None, Some, refl, sym, ap, ◌∙◌, Bor, append_assoc, subst, Result, Ok, Err, IfOk}
use Rattle.std.specs.Prelude.{◌||◌, ◌&&◌, bytes_eq}
use Rattle.std.specs.BTreeSet.{BTreeSet}
use Rattle.std.specs.Option.{option_copied}
use Rattle.std.proofs.lemmas.List.{append-nil, drop_all}
use Rattle.std.proofs.lemmas.List.Concat.{flat_map-cons}
use Rattle.lz_base.specs.Met.{Met}
use Rattle.lz_base.specs.Names.{is_among}
use Rattle.v_syntax.specs.declared.token.Ident.{Ident}
use Rattle.v_syntax.specs.declared.expr.Number.{Number}
use Rattle.v_meaning.specs.declared.names.Entry.{Entry}
use Rattle.v_meaning.specs.Marks.{Mark, Declares, Valued, Used, Digits, UnsizedPart, Joined, Again}
use Rattle.v_meaning.specs.Literals.{is_wrong_number}
use Rattle.v_meaning.specs.MarkRules.{place_if, declared_twice, used_early, declared_in, valued_in, wrong_number}
use Rattle.v_scope.specs.declared.occurrence.Occurrence.{Occurrence}
use Rattle.v_scope.specs.declared.occurrence.Occurrence.TheVariants as v
use Rattle.v_scope.specs.Occurrences.{mark_of, marks_in}
use Rattle.v_scope.specs.Firsts.{lesser, least_from}
use Rattle.v_scope.specs.Idents.{ident_declared, ident_valued, ident_used, name_in, behind, twice_at, early_at, is_early}
use Rattle.v_scope.proofs.Adding.{next_is}

-- ---- the least place

pub least_more : (first : Option ℕ) (xs ys : List ℕ) → least_from first (xs ++ ys) ≡ least_from (least_from first xs) ys
least_more first [] ys = refl
least_more first (x ∷ xs) ys = least_more (lesser first x) xs ys

-- the least place of what is left, where some places stand before the rest of it
pub goes_on : (first more : Option ℕ) (xs ys left : List ℕ) → left ≡ xs ++ ys → more ≡ least_from first xs → least_from more ys ≡ least_from first left
goes_on first more xs ys left is m = ap (λ (f : Option ℕ). least_from f ys) m ∙ sym (least_more first xs ys) ∙ ap (least_from first) (sym is)

-- ---- names that were met

swap : (a b c : Bool) → (a || (b || c)) ≡ (b || (a || c))
swap true true c = refl
swap true false c = refl
swap false b c = refl

among_push : (q key : List ℕ) (names : List (List ℕ)) → is_among q (names ++ key ∷ []) ≡ (bytes_eq key q || is_among q names)
among_push q key [] = refl
among_push q key (other ∷ names) = ap (λ b. bytes_eq other q || b) (among_push q key names) ∙ swap (bytes_eq other q) (bytes_eq key q) (is_among q names)

-- the order of the names that were met is all one
pub met_behind : (met : BTreeSet (Bor (List ℕ))) (names : List (List ℕ)) (n : Option Ident) → Met met (names ++ name_in n) → Met met (behind names n)
met_behind met names None m q = subst (Met met) (append-nil names) m q
met_behind met names (Some n) m q = m q ∙ among_push q.now n.name names

pub met_before : (met : BTreeSet (Bor (List ℕ))) (names : List (List ℕ)) (key : List ℕ) → Met met (names ++ key ∷ []) → Met met (key ∷ names)
met_before met names key m q = m q ∙ among_push q.now key names

-- ---- one mark

twice_step : (before : List (List ℕ)) (m : Mark) (marks : List Mark) → declared_twice before (m ∷ marks) ≡ twice_at before (ident_declared m) ++ declared_twice (behind before (ident_declared m)) marks
twice_step before (Declares n) marks = refl
twice_step before (Valued n) marks = refl
twice_step before (Used form n) marks = refl
twice_step before (Digits item n) marks = refl
twice_step before (UnsizedPart at) marks = refl
twice_step before (Joined width brace) marks = refl
twice_step before (Again at) marks = refl

early_step : (all parameters ended : List (List ℕ)) (m : Mark) (marks : List Mark) →
    used_early all parameters ended (m ∷ marks) ≡ early_at all parameters ended (ident_used m) ++ used_early all parameters (behind ended (ident_valued m)) marks
early_step all parameters ended (Declares n) marks = refl
early_step all parameters ended (Valued n) marks = refl
early_step all parameters ended (Used form n) marks = refl
early_step all parameters ended (Digits item n) marks = refl
early_step all parameters ended (UnsizedPart at) marks = refl
early_step all parameters ended (Joined width brace) marks = refl
early_step all parameters ended (Again at) marks = refl

declared_step : (m : Mark) (marks : List Mark) → declared_in (m ∷ marks) ≡ name_in (ident_declared m) ++ declared_in marks
declared_step (Declares n) marks = refl
declared_step (Valued n) marks = refl
declared_step (Used form n) marks = refl
declared_step (Digits item n) marks = refl
declared_step (UnsizedPart at) marks = refl
declared_step (Joined width brace) marks = refl
declared_step (Again at) marks = refl

valued_step : (m : Mark) (marks : List Mark) → valued_in (m ∷ marks) ≡ name_in (ident_valued m) ++ valued_in marks
valued_step (Declares n) marks = refl
valued_step (Valued n) marks = refl
valued_step (Used form n) marks = refl
valued_step (Digits item n) marks = refl
valued_step (UnsizedPart at) marks = refl
valued_step (Joined width brace) marks = refl
valued_step (Again at) marks = refl

-- the marks of what is left begin with that of the next occurrence
marks_next : (names : List Entry) (all : List Occurrence) (i : ℕ) (o : Occurrence) → i < length all → o ≡ get_or all i o →
    marks_in names (drop i all) ≡ mark_of names o ∷ marks_in names (drop (i + 1) all)
marks_next names all i o h is = ap (marks_in names) (next_is all i o h is)

-- ---- the rounds for E4

-- These names were declared before, and the least place is that of what is left and of what was found.
pub record TwiceGoes (names : List Entry) (all : List Occurrence) (i : ℕ) (met : BTreeSet (Bor (List ℕ))) (first : Option ℕ) : Type 0 where
  pub before : List (List ℕ)
  pub met_them : Met met before
  pub least : least_from first (declared_twice before (marks_in names (drop i all))) ≡ least_from None (declared_twice [] (marks_in names all))

pub twice_begins : (names : List Entry) (all : List Occurrence) (met : BTreeSet (Bor (List ℕ))) → Met met [] → TwiceGoes names all 0 met None
twice_begins names all met none = record { before = []; met_them = none; least = refl }

pub twice_next : (names : List Entry) (all : List Occurrence) (i : ℕ) (o : Occurrence) (ident : Option Ident) (met after : BTreeSet (Bor (List ℕ))) (first more : Option ℕ) → i < length all → o ≡ get_or all i o →
    ident ≡ ident_declared (mark_of names o) → ((before : List (List ℕ)) → Met met before → (more ≡ least_from first (twice_at before ident)) × Met after (behind before ident)) →
    TwiceGoes names all i met first → TwiceGoes names all (i + 1) after more
twice_next names all i o ident met after first more h is d step g = record {
  before = behind g.before ident;
  met_them = (step g.before g.met_them).1;
  least = goes_on first more (twice_at g.before ident) (declared_twice (behind g.before ident) (marks_in names (drop (i + 1) all))) (declared_twice g.before (marks_in names (drop i all)))
      (ap (declared_twice g.before) (marks_next names all i o h is) ∙ twice_step g.before (mark_of names o) (marks_in names (drop (i + 1) all))
      ∙ ap (λ (n : Option Ident). twice_at g.before n ++ declared_twice (behind g.before n) (marks_in names (drop (i + 1) all))) (sym d)) ((step g.before g.met_them).0)
      ∙ g.least;
}

pub twice_ends : (names : List Entry) (all : List Occurrence) (i : ℕ) (met : BTreeSet (Bor (List ℕ))) (first : Option ℕ) → length all ≤ i → TwiceGoes names all i met first →
    first ≡ least_from None (declared_twice [] (marks_in names all))
twice_ends names all i met first h g = sym (ap (λ (os : List Occurrence). least_from first (declared_twice g.before (marks_in names os))) (drop_all i all h)) ∙ g.least

-- ---- the rounds that meet all names and all parameters

pub record NamesGo (names : List Entry) (all : List Occurrence) (i : ℕ) (declared parameters : BTreeSet (Bor (List ℕ))) : Type 0 where
  pub known : List (List ℕ)
  pub valued : List (List ℕ)
  pub met_known : Met declared known
  pub met_valued : Met parameters valued
  pub all_known : known ++ declared_in (marks_in names (drop i all)) ≡ declared_in (marks_in names all)
  pub all_valued : valued ++ valued_in (marks_in names (drop i all)) ≡ valued_in (marks_in names all)

pub names_begin : (names : List Entry) (all : List Occurrence) (declared parameters : BTreeSet (Bor (List ℕ))) → Met declared [] → Met parameters [] → NamesGo names all 0 declared parameters
names_begin names all declared parameters d p = record { known = []; valued = []; met_known = d; met_valued = p; all_known = refl; all_valued = refl }

pub names_next : (names : List Entry) (all : List Occurrence) (i : ℕ) (o : Occurrence) (a b : Option Ident) (declared declared' parameters parameters' : BTreeSet (Bor (List ℕ))) → i < length all → o ≡ get_or all i o →
    a ≡ ident_declared (mark_of names o) → b ≡ ident_valued (mark_of names o) →
    ((known : List (List ℕ)) → Met declared known → Met declared' (known ++ name_in a)) → ((valued : List (List ℕ)) → Met parameters valued → Met parameters' (valued ++ name_in b)) →
    NamesGo names all i declared parameters → NamesGo names all (i + 1) declared' parameters'
names_next names all i o a b declared declared' parameters parameters' h is a_is b_is d p g = record {
  known = g.known ++ name_in a;
  valued = g.valued ++ name_in b;
  met_known = d g.known g.met_known;
  met_valued = p g.valued g.met_valued;
  all_known = append_assoc g.known (name_in a) (declared_in (marks_in names (drop (i + 1) all)))
      ∙ ap (λ (l : List (List ℕ)). g.known ++ l) (ap (λ (n : Option Ident). name_in n ++ declared_in (marks_in names (drop (i + 1) all))) a_is
      ∙ sym (ap declared_in (marks_next names all i o h is) ∙ declared_step (mark_of names o) (marks_in names (drop (i + 1) all))))
      ∙ g.all_known;
  all_valued = append_assoc g.valued (name_in b) (valued_in (marks_in names (drop (i + 1) all)))
      ∙ ap (λ (l : List (List ℕ)). g.valued ++ l) (ap (λ (n : Option Ident). name_in n ++ valued_in (marks_in names (drop (i + 1) all))) b_is
      ∙ sym (ap valued_in (marks_next names all i o h is) ∙ valued_step (mark_of names o) (marks_in names (drop (i + 1) all))))
      ∙ g.all_valued;
}

whole : (xs rest all : List (List ℕ)) → rest ≡ [] → xs ++ rest ≡ all → xs ≡ all
whole xs rest all none is = sym (ap (λ (l : List (List ℕ)). xs ++ l) none ∙ append-nil xs) ∙ is

pub names_end : (names : List Entry) (all : List Occurrence) (i : ℕ) (declared parameters : BTreeSet (Bor (List ℕ))) → length all ≤ i → NamesGo names all i declared parameters →
    Met declared (declared_in (marks_in names all)) × Met parameters (valued_in (marks_in names all))
names_end names all i declared parameters h g = (
  subst (Met declared) (whole g.known (declared_in (marks_in names (drop i all))) (declared_in (marks_in names all)) (ap (λ (os : List Occurrence). declared_in (marks_in names os)) (drop_all i all h)) g.all_known) g.met_known,
  subst (Met parameters) (whole g.valued (valued_in (marks_in names (drop i all))) (valued_in (marks_in names all)) (ap (λ (os : List Occurrence). valued_in (marks_in names os)) (drop_all i all h)) g.all_valued) g.met_valued,
)

-- ---- the rounds for E5

pub record EarlyGoes (names : List Entry) (known valued : List (List ℕ)) (all : List Occurrence) (i : ℕ) (met : BTreeSet (Bor (List ℕ))) (first : Option ℕ) : Type 0 where
  pub ended : List (List ℕ)
  pub met_them : Met met ended
  pub least : least_from first (used_early known valued ended (marks_in names (drop i all))) ≡ least_from None (used_early known valued [] (marks_in names all))

pub early_begins : (names : List Entry) (known valued : List (List ℕ)) (all : List Occurrence) (met : BTreeSet (Bor (List ℕ))) → Met met [] → EarlyGoes names known valued all 0 met None
early_begins names known valued all met none = record { ended = []; met_them = none; least = refl }

pub early_next : (names : List Entry) (known valued : List (List ℕ)) (all : List Occurrence) (i : ℕ) (o : Occurrence) (a b : Option Ident) (met after : BTreeSet (Bor (List ℕ))) (first more : Option ℕ) →
    i < length all → o ≡ get_or all i o → a ≡ ident_used (mark_of names o) → b ≡ ident_valued (mark_of names o) →
    ((ended : List (List ℕ)) → Met met ended → more ≡ least_from first (early_at known valued ended a)) → ((ended : List (List ℕ)) → Met met ended → Met after (ended ++ name_in b)) →
    EarlyGoes names known valued all i met first → EarlyGoes names known valued all (i + 1) after more
early_next names known valued all i o a b met after first more h is a_is b_is step meets g = record {
  ended = behind g.ended b;
  met_them = met_behind after g.ended b (meets g.ended g.met_them);
  least = goes_on first more (early_at known valued g.ended a) (used_early known valued (behind g.ended b) (marks_in names (drop (i + 1) all))) (used_early known valued g.ended (marks_in names (drop i all)))
      (ap (used_early known valued g.ended) (marks_next names all i o h is) ∙ early_step known valued g.ended (mark_of names o) (marks_in names (drop (i + 1) all))
      ∙ ap (λ (n : Option Ident). early_at known valued g.ended n ++ used_early known valued (behind g.ended (ident_valued (mark_of names o))) (marks_in names (drop (i + 1) all))) (sym a_is)
      ∙ ap (λ (n : Option Ident). early_at known valued g.ended a ++ used_early known valued (behind g.ended n) (marks_in names (drop (i + 1) all))) (sym b_is)) (step g.ended g.met_them)
      ∙ g.least;
}

pub early_ends : (names : List Entry) (known valued : List (List ℕ)) (all : List Occurrence) (i : ℕ) (met : BTreeSet (Bor (List ℕ))) (first : Option ℕ) → length all ≤ i → EarlyGoes names known valued all i met first →
    first ≡ least_from None (used_early known valued [] (marks_in names all))
early_ends names known valued all i met first h g = sym (ap (λ (os : List Occurrence). least_from first (used_early known valued g.ended (marks_in names os))) (drop_all i all h)) ∙ g.least

-- ---- the rounds for E6

pub record NumbersGo (names : List Entry) (all : List Occurrence) (i : ℕ) (first : Option ℕ) : Type 0 where
  pub least : least_from first (flat_map wrong_number (marks_in names (drop i all))) ≡ least_from None (flat_map wrong_number (marks_in names all))

pub numbers_next : (names : List Entry) (all : List Occurrence) (i : ℕ) (o : Occurrence) (first more : Option ℕ) → i < length all → o ≡ get_or all i o → more ≡ least_from first (wrong_number (mark_of names o)) →
    NumbersGo names all i first → NumbersGo names all (i + 1) more
numbers_next names all i o first more h is step g = record {
  least = goes_on first more (wrong_number (mark_of names o)) (flat_map wrong_number (marks_in names (drop (i + 1) all))) (flat_map wrong_number (marks_in names (drop i all)))
      (ap (flat_map wrong_number) (marks_next names all i o h is) ∙ flat_map-cons wrong_number (mark_of names o) (marks_in names (drop (i + 1) all))) step
      ∙ g.least;
}

pub numbers_end : (names : List Entry) (all : List Occurrence) (i : ℕ) (first : Option ℕ) → length all ≤ i → NumbersGo names all i first → first ≡ least_from None (flat_map wrong_number (marks_in names all))
numbers_end names all i first h g = sym (ap (λ (os : List Occurrence). least_from first (flat_map wrong_number (marks_in names os))) (drop_all i all h)) ∙ g.least

-- ---- one name, if there is one

pub met_none : (met : BTreeSet (Bor (List ℕ))) (names : List (List ℕ)) (ident : Option (Bor Ident)) → ident ≡ None → Met met names → Met met (names ++ name_in (option_copied ident))
met_none met names ident is m = rw is (subst (Met met) (sym (append-nil names)) m)

pub met_some : (met : BTreeSet (Bor (List ℕ))) (names : List (List ℕ)) (ident : Option (Bor Ident)) (r : Bor Ident) (key : List ℕ) → ident ≡ Some r → key ≡ r.now.name → Met met (names ++ key ∷ []) →
    Met met (names ++ name_in (option_copied ident))
met_some met names ident r key is name m = rw is (subst (λ (k : List ℕ). Met met (names ++ k ∷ [])) name m)

pub twice_none : (met : BTreeSet (Bor (List ℕ))) (before : List (List ℕ)) (ident : Option (Bor Ident)) (first : Option ℕ) → ident ≡ None → Met met before →
    (first ≡ least_from first (twice_at before (option_copied ident))) × Met met (behind before (option_copied ident))
twice_none met before ident first is m = rw is (refl, m)

not_not : (b : Bool) → not (not b) ≡ b
not_not true = refl
not_not false = refl

pub twice_some : (met : BTreeSet (Bor (List ℕ))) (before : List (List ℕ)) (ident : Option (Bor Ident)) (r : Bor Ident) (key : List ℕ) (added : Bool) (first more : Option ℕ) → ident ≡ Some r → key ≡ r.now.name →
    added ≡ not (is_among key before) → Met met (before ++ key ∷ []) → more ≡ least_from first (place_if (not added) r.now.at) →
    (more ≡ least_from first (twice_at before (option_copied ident))) × Met met (behind before (option_copied ident))
twice_some met before ident r key added first more is name was m note =
    rw is (
      note ∙ ap (λ (b : Bool). least_from first (place_if b r.now.at)) (ap not was ∙ not_not (is_among key before) ∙ ap (λ (k : List ℕ). is_among k before) name),
      subst (λ (k : List ℕ). Met met (k ∷ before)) name (met_before met before key m),
    )

pub used_none : (ks ps es : List (List ℕ)) (ident : Option (Bor Ident)) (first : Option ℕ) → ident ≡ None → first ≡ least_from first (early_at ks ps es (option_copied ident))
used_none ks ps es ident first is = rw is refl

pub used_some : (ks ps es : List (List ℕ)) (ident : Option (Bor Ident)) (r : Bor Ident) (key : List ℕ) (early : Bool) (first more : Option ℕ) → ident ≡ Some r → key ≡ r.now.name → early ≡ is_early ks ps es key →
    more ≡ least_from first (place_if early r.now.at) → more ≡ least_from first (early_at ks ps es (option_copied ident))
used_some ks ps es ident r key early first more is name test note =
    note ∙ ap (λ (b : Bool). least_from first (place_if b r.now.at)) (test ∙ ap (is_early ks ps es) name) ∙ ap (λ (i : Option (Bor Ident)). least_from first (early_at ks ps es (option_copied i))) (sym is)

pub early_by : (ks ps es : List (List ℕ)) (name : List ℕ) (known parameter ended early : Bool) → early ≡ (not known || (parameter && not ended)) → known ≡ is_among name ks → parameter ≡ is_among name ps → ended ≡ is_among name es →
    early ≡ is_early ks ps es name
early_by ks ps es name known parameter ended early is k p e =
    is ∙ ap (λ (b : Bool). not b || (parameter && not ended)) k ∙ ap (λ (b : Bool). not (is_among name ks) || (b && not ended)) p ∙ ap (λ (b : Bool). not (is_among name ks) || (is_among name ps && not b)) e

pub early_of_all : {E : Type 0} (r : Result (Option ℕ) E) (all : List Occurrence) (known parameters : BTreeSet (Bor (List ℕ))) →
    ((names : List Entry) → Met known (declared_in (marks_in names all)) × Met parameters (valued_in (marks_in names all))) →
    IfOk r (λ first. (names : List Entry) (ks ps : List (List ℕ)) → Met known ks → Met parameters ps → first ≡ least_from None (used_early ks ps [] (marks_in names all))) →
    IfOk r (λ first. (names : List Entry) → first ≡ least_from None (used_early (declared_in (marks_in names all)) (valued_in (marks_in names all)) [] (marks_in names all)))
early_of_all (Ok first) all known parameters met h = λ names. h names (declared_in (marks_in names all)) (valued_in (marks_in names all)) ((met names).0) ((met names).1)
early_of_all (Err e) all known parameters met h = tt

pub by_digits : (names : List Entry) (o : Occurrence) (item : Bool) (n : Bor Number) (wrong : Bool) (first more : Option ℕ) → o ≡ v.Digits item n → wrong ≡ is_wrong_number n.now.spelling →
    more ≡ least_from first (place_if wrong n.now.at) → more ≡ least_from first (wrong_number (mark_of names o))
by_digits names o item n wrong first more is test note =
    note ∙ ap (λ (b : Bool). least_from first (place_if b n.now.at)) test ∙ ap (λ (x : Occurrence). least_from first (wrong_number (mark_of names x))) (sym is)
