-- A proper constant expression is one of the same value over other names that have the same parameters.
use Rattle.std.proofs.Common.{◌≡◌, ℕ, List, [], ◌∷◌, ◌++◌, map, Bool, true, false, not, Option, Some, refl, sym, ap, ◌∙◌, subst}
use Rattle.std.specs.Prelude.{◌*◌, ◌&&◌, if◌then◌else◌, find, bytes_eq}
use Rattle.std.specs.List.{list_all}
use Rattle.v_syntax.specs.declared.token.Ident.{Ident}
use Rattle.v_syntax.specs.declared.expr.Expr.{Expr}
use Rattle.v_syntax.specs.declared.expr.Expr.TheOpen.{Expr-F}
use Rattle.v_syntax.specs.declared.expr.Expr.TheOpen as o
use Rattle.v_syntax.specs.declared.expr.Expr.TheViews.{roll-Expr}
use Rattle.v_syntax.specs.declared.expr.Expr.TheFolds.{map-Expr, fold-roll-Expr, para-roll-Expr, ind-Expr}
use Rattle.v_syntax.specs.declared.expr.BinaryOperator.{BinaryOperator}
use Rattle.v_meaning.specs.Senses.{Sense, constant, prefixed, chained, chosen, joined, replicated, recast}
use Rattle.v_meaning.specs.declared.names.Entry.{Entry}
use Rattle.v_meaning.specs.Names.{entry_or, entry_of, read, or_zero}
use Rattle.v_meaning.specs.Expressions.{is_parameter, sense_step, sense_of, all_links, constant_step, is_constant, number_by_itself}
use Rattle.v_meaning.specs.Declarations.{constant_value}
use Rattle.v_meaning.specs.Proper.{is_between_1_and_128, Judged, judged_exprs, are_sound, is_unsized_number, can_join, sound_step, is_sound, is_proper}

-- each parameter of the first names is the same entry among the second ones
pub record Agrees (a b : List Entry) : Type 0 where
  pub same : (name : List ℕ) → is_parameter (entry_of a name).kind ≡ true → entry_of b name ≡ entry_of a name

pub record Same (a b : List Entry) (x : Expr) : Type 0 where
  pub constant : is_constant b x ≡ true
  pub sense : sense_of b [] x ≡ sense_of a [] x
  pub sound : is_sound b x ≡ is_sound a x

Stays : List Entry → List Entry → Expr → Type 0
Stays a b x = is_constant a x ≡ true → Same a b x

-- an expression that stays
abbrev Kept : List Entry → List Entry → Type 0
Kept a b = (x : Expr) × Stays a b x

both_of : (p q : Bool) → p ≡ true → q ≡ true → (p && q) ≡ true
both_of p q h k = rw (h, k) refl

left_of : (p q : Bool) → (p && q) ≡ true → p ≡ true
left_of true q h = refl
left_of false q h = absurd (cc h)

right_of : (p q : Bool) → (p && q) ≡ true → q ≡ true
right_of true q h = h
right_of false q h = absurd (cc h)

-- ---- one level

abbrev constant_layer : List Entry → Expr-F Expr → Bool
constant_layer names x = constant_step names (map-Expr Expr Bool (is_constant names) x)

abbrev sense_layer : List Entry → Expr-F Expr → Sense
sense_layer names x = sense_step names [] (map-Expr Expr Sense (sense_of names []) x)

abbrev judged : List Entry → Expr → Judged
judged names x = (x, is_sound names x)

abbrev sound_layer : List Entry → Expr-F Expr → Bool
sound_layer names x = sound_step names (map-Expr Expr Judged (judged names) x)

record SameLayer (a b : List Entry) (x : Expr-F Expr) : Type 0 where
  constant : constant_layer b x ≡ true
  sense : sense_layer b x ≡ sense_layer a x
  sound : sound_layer b x ≡ sound_layer a x

rolled : (a b : List Entry) (x : Expr-F Expr) → (constant_layer a x ≡ true → SameLayer a b x) → Stays a b (roll-Expr x)
unfolding Stays
rolled a b x f h =
    let s = f (sym (fold-roll-Expr Bool (constant_step a) x) ∙ h) in
    record {
      constant = fold-roll-Expr Bool (constant_step b) x ∙ s.constant;
      sense = fold-roll-Expr Sense (sense_step b []) x ∙ s.sense ∙ sym (fold-roll-Expr Sense (sense_step a []) x);
      sound = para-roll-Expr Bool (sound_step b) x ∙ s.sound ∙ sym (para-roll-Expr Bool (sound_step a) x);
    }

-- ---- operands

abbrev link_of : {A : Type 0} (f : Expr → A) → BinaryOperator × Expr → BinaryOperator × A
link_of f l = (l.0, f l.1)

record LinksSame (a b : List Entry) (links : List (BinaryOperator × Expr)) : Type 0 where
  constant : all_links (map (link_of (is_constant b)) links) ≡ true
  sense : map (link_of (sense_of b [])) links ≡ map (link_of (sense_of a [])) links
  sound : list_all (λ (l : BinaryOperator × Judged). l.1.1) (map (link_of (judged b)) links) ≡ list_all (λ (l : BinaryOperator × Judged). l.1.1) (map (link_of (judged a)) links)

abbrev plain_link : (a b : List Entry) → BinaryOperator × Kept a b → BinaryOperator × Expr
plain_link a b l = (l.0, l.1.0)

links_stay : (a b : List Entry) (ls : List (BinaryOperator × Kept a b)) → all_links (map (link_of (is_constant a)) (map (plain_link a b) ls)) ≡ true →
    LinksSame a b (map (plain_link a b) ls)
unfolding Stays
links_stay a b [] h = record { constant = refl; sense = refl; sound = refl }
links_stay a b (l ∷ ls) h =
    let rest : List (BinaryOperator × Expr) = map (plain_link a b) ls in
    let s = l.1.1 (left_of (is_constant a l.1.0) (all_links (map (link_of (is_constant a)) rest)) h) in
    let m = links_stay a b ls (right_of (is_constant a l.1.0) (all_links (map (link_of (is_constant a)) rest)) h) in
    record {
      constant = both_of (is_constant b l.1.0) (all_links (map (link_of (is_constant b)) rest)) s.constant m.constant;
      sense = λ i. (l.0, s.sense i) ∷ m.sense i;
      sound = λ i. s.sound i && m.sound i;
    }

record PartsSame (a b : List Entry) (parts : List Expr) : Type 0 where
  constant : list_all (λ part. part) (map (is_constant b) parts) ≡ true
  sense : map (sense_of b []) parts ≡ map (sense_of a []) parts
  judged : map (judged b) parts ≡ map (judged a) parts

abbrev plain_part : (a b : List Entry) → Kept a b → Expr
plain_part a b x = x.0

parts_stay : (a b : List Entry) (xs : List (Kept a b)) → list_all (λ part. part) (map (is_constant a) (map (plain_part a b) xs)) ≡ true →
    PartsSame a b (map (plain_part a b) xs)
unfolding Stays
parts_stay a b [] h = record { constant = refl; sense = refl; judged = refl }
parts_stay a b (x ∷ xs) h =
    let rest : List Expr = map (plain_part a b) xs in
    let s = x.1 (left_of (is_constant a x.0) (list_all (λ part. part) (map (is_constant a) rest)) h) in
    let m = parts_stay a b xs (right_of (is_constant a x.0) (list_all (λ part. part) (map (is_constant a) rest)) h) in
    record {
      constant = both_of (is_constant b x.0) (list_all (λ part. part) (map (is_constant b) rest)) s.constant m.constant;
      sense = λ i. s.sense i ∷ m.sense i;
      judged = λ i. (x.0, s.sound i) ∷ m.judged i;
    }

themselves : (names : List Entry) (xs : List Expr) → judged_exprs (map (judged names) xs) ≡ xs
themselves names [] = refl
themselves names (x ∷ xs) = ap (λ (l : List Expr). x ∷ l) (themselves names xs)

-- the same parts can be joined
join_stays : (a b : List Entry) (count : ℕ) (xs : List Expr) → PartsSame a b xs → can_join b count (map (judged b) xs) ≡ can_join a count (map (judged a) xs)
join_stays a b count xs s =
    ap (can_join b count) s.judged
    ∙ ap (λ (senses : List Sense). list_all (λ (x : Judged). not (is_unsized_number (number_by_itself x.0))) (map (judged a) xs) && is_between_1_and_128 (Some (count * (joined senses).width)))
    (ap (map (sense_of b [])) (themselves a xs) ∙ s.sense ∙ sym (ap (map (sense_of a [])) (themselves a xs)))

-- ---- each variant

name_stays : (a b : List Entry) → Agrees a b → (n : Ident) → constant_layer a (o.Name n) ≡ true → SameLayer a b (o.Name n)
name_stays a b agrees n h =
    let e = agrees.same n.name h in
    record { constant = ap (λ (x : Entry). is_parameter x.kind) e ∙ h; sense = ap read e; sound = refl }

conditional_stays : (a b : List Entry) (c x y : Kept a b) → constant_layer a (o.Conditional (plain_part a b c) (plain_part a b x) (plain_part a b y)) ≡ true →
    SameLayer a b (o.Conditional (plain_part a b c) (plain_part a b x) (plain_part a b y))
unfolding Stays
conditional_stays a b c x y h =
    let p = left_of (is_constant a c.0 && is_constant a x.0) (is_constant a y.0) h in
    let s = c.1 (left_of (is_constant a c.0) (is_constant a x.0) p) in
    let t = x.1 (right_of (is_constant a c.0) (is_constant a x.0) p) in
    let u = y.1 (right_of (is_constant a c.0 && is_constant a x.0) (is_constant a y.0) h) in
    record {
      constant = both_of (is_constant b c.0 && is_constant b x.0) (is_constant b y.0) (both_of (is_constant b c.0) (is_constant b x.0) s.constant t.constant) u.constant;
      sense = λ i. chosen (s.sense i) (t.sense i) (u.sense i);
      sound = λ i. s.sound i && t.sound i && u.sound i;
    }

chain_stays : (a b : List Entry) (x : Kept a b) (ls : List (BinaryOperator × Kept a b)) → constant_layer a (o.Chain (plain_part a b x) (map (plain_link a b) ls)) ≡ true →
    SameLayer a b (o.Chain (plain_part a b x) (map (plain_link a b) ls))
unfolding Stays
chain_stays a b x ls h =
    let rest : List (BinaryOperator × Expr) = map (plain_link a b) ls in
    let s = x.1 (left_of (is_constant a x.0) (all_links (map (link_of (is_constant a)) rest)) h) in
    let m = links_stay a b ls (right_of (is_constant a x.0) (all_links (map (link_of (is_constant a)) rest)) h) in
    record {
      constant = both_of (is_constant b x.0) (all_links (map (link_of (is_constant b)) rest)) s.constant m.constant;
      sense = λ i. chained (s.sense i) (m.sense i);
      sound = λ i. s.sound i && m.sound i;
    }

concat_stays : (a b : List Entry) (brace : ℕ) (xs : List (Kept a b)) → constant_layer a (o.Concat brace (map (plain_part a b) xs)) ≡ true →
    SameLayer a b (o.Concat brace (map (plain_part a b) xs))
concat_stays a b brace xs h =
    let m = parts_stay a b xs h in
    record {
      constant = m.constant;
      sense = ap joined m.sense;
      sound = λ i. are_sound (m.judged i) && join_stays a b 1 (map (plain_part a b) xs) m i;
    }

replicate_stays : (a b : List Entry) (brace count_at inner : ℕ) (c : Kept a b) (xs : List (Kept a b)) →
    constant_layer a (o.Replicate brace count_at (plain_part a b c) inner (map (plain_part a b) xs)) ≡ true →
    SameLayer a b (o.Replicate brace count_at (plain_part a b c) inner (map (plain_part a b) xs))
unfolding Stays
replicate_stays a b brace count_at inner c xs h =
    let parts : List Expr = map (plain_part a b) xs in
    let hc = left_of (is_constant a c.0) (list_all (λ part. part) (map (is_constant a) parts)) h in
    let s = c.1 hc in
    let m = parts_stay a b xs (right_of (is_constant a c.0) (list_all (λ part. part) (map (is_constant a) parts)) h) in
    let same : is_constant b c.0 ≡ is_constant a c.0 = s.constant ∙ sym hc in
    record {
      constant = both_of (is_constant b c.0) (list_all (λ part. part) (map (is_constant b) parts)) s.constant m.constant;
      sense = λ i. replicated (or_zero (constant (s.sense i))) (joined (m.sense i));
      sound =
          (λ i. same i && s.sound i && is_between_1_and_128 (constant (s.sense i)) && are_sound (m.judged i) && can_join b (or_zero (constant (s.sense i))) (map (judged b) parts))
          ∙ ap (λ (t : Bool). is_constant a c.0 && is_sound a c.0 && is_between_1_and_128 (constant_value a c.0) && are_sound (map (judged a) parts) && t)
          (join_stays a b (or_zero (constant_value a c.0)) parts m);
    }

layer_stays : (a b : List Entry) → Agrees a b → (x : Expr-F Expr) (y : Expr-F ((x : Expr) × Stays a b x)) → map-Expr ((x : Expr) × Stays a b x) Expr (λ e. e.0) y ≡ x → Stays a b (roll-Expr x)
unfolding Stays
layer_stays a b agrees x (o.Number n) is = subst (λ z. Stays a b (roll-Expr z)) is (rolled a b (o.Number n) (λ h. record { constant = h; sense = refl; sound = refl }))
layer_stays a b agrees x (o.Name n) is = subst (λ z. Stays a b (roll-Expr z)) is (rolled a b (o.Name n) (name_stays a b agrees n))
layer_stays a b agrees x (o.Select n bracket index) is = subst (λ z. Stays a b (roll-Expr z)) is (rolled a b (o.Select n bracket index.0) (λ h. absurd (cc h)))
layer_stays a b agrees x (o.Part n bracket ma m la l) is = subst (λ z. Stays a b (roll-Expr z)) is (rolled a b (o.Part n bracket ma m.0 la l.0) (λ h. absurd (cc h)))
layer_stays a b agrees x (o.Unary op e) is =
    subst (λ z. Stays a b (roll-Expr z)) is
    (rolled a b (o.Unary op e.0) (λ h. record { constant = (e.1 h).constant; sense = ap (prefixed op) (e.1 h).sense; sound = (e.1 h).sound }))
layer_stays a b agrees x (o.Cast sign e) is =
    subst (λ z. Stays a b (roll-Expr z)) is
    (rolled a b (o.Cast sign e.0) (λ h. record { constant = (e.1 h).constant; sense = ap (recast sign) (e.1 h).sense; sound = (e.1 h).sound }))
layer_stays a b agrees x (o.Conditional c t e) is =
    subst (λ z. Stays a b (roll-Expr z)) is (rolled a b (o.Conditional c.0 t.0 e.0) (conditional_stays a b c t e))
layer_stays a b agrees x (o.Chain e ls) is =
    subst (λ z. Stays a b (roll-Expr z)) is (rolled a b (o.Chain e.0 (map (plain_link a b) ls)) (chain_stays a b e ls))
layer_stays a b agrees x (o.Concat brace xs) is =
    subst (λ z. Stays a b (roll-Expr z)) is (rolled a b (o.Concat brace (map (plain_part a b) xs)) (concat_stays a b brace xs))
layer_stays a b agrees x (o.Replicate brace ca c inner xs) is =
    subst (λ z. Stays a b (roll-Expr z)) is (rolled a b (o.Replicate brace ca c.0 inner (map (plain_part a b) xs)) (replicate_stays a b brace ca inner c xs))

pub stays : (a b : List Entry) → Agrees a b → (x : Expr) → is_constant a x ≡ true → Same a b x
unfolding Stays
stays a b agrees x h = let all : (x : Expr) → Stays a b x = ind-Expr (Stays a b) (layer_stays a b agrees) in all x h

-- ---- proper expressions

pub record StaysProper (a b : List Entry) (x : Expr) : Type 0 where
  pub proper : is_proper b x ≡ true
  pub sense : sense_of b [] x ≡ sense_of a [] x
  pub value : constant_value b x ≡ constant_value a x

pub proper_stays : (a b : List Entry) → Agrees a b → (x : Expr) → is_proper a x ≡ true → StaysProper a b x
proper_stays a b agrees x h =
    let s = stays a b agrees x (left_of (is_constant a x) (is_sound a x) h) in
    record {
      proper = both_of (is_constant b x) (is_sound b x) s.constant (s.sound ∙ right_of (is_constant a x) (is_sound a x) h);
      sense = s.sense;
      value = ap constant s.sense;
    }

same_truth : (p q : Bool) → (p ≡ true → q ≡ true) → (q ≡ true → p ≡ true) → p ≡ q
same_truth true q f g = sym (f refl)
same_truth false true f g = g refl
same_truth false false f g = refl

-- the same expressions are proper over names that agree
pub proper_same : (a b : List Entry) → Agrees a b → Agrees b a → (x : Expr) → is_proper b x ≡ is_proper a x
proper_same a b there back x = same_truth (is_proper b x) (is_proper a x) (λ h. (proper_stays b a back x h).proper) (λ h. (proper_stays a b there x h).proper)

-- ---- more names

found_more : (test : Entry → Bool) (names more : List Entry) → is_parameter (entry_or (find test names)).kind ≡ true → find test (names ++ more) ≡ find test names
found_more test [] more h = absurd (cc h)
found_more test (e ∷ es) more h = found_case (test e) e (find test es) (find test (es ++ more)) (found_more test es more) h where
  found_case : (b : Bool) (e : Entry) (r s : Option Entry) → (is_parameter (entry_or r).kind ≡ true → s ≡ r) → is_parameter (entry_or (if b then Some e else r)).kind ≡ true → (if b then Some e else s) ≡ (if b then Some e else r)
  found_case true e r s f h = refl
  found_case false e r s f h = f h

-- names behind others change no parameter
pub more_agree : (names more : List Entry) → Agrees names (names ++ more)
more_agree names more = record { same = λ name h. ap entry_or (found_more (λ (e : Entry). bytes_eq e.name name) names more h) }

-- none of these is a parameter
abbrev pub ArePlain : List Entry → Type 0
ArePlain [] = Unit {0}
ArePlain (e ∷ es) = (is_parameter e.kind ≡ false) × ArePlain es

not_both : (b : Bool) → b ≡ true → b ≡ false → ⊥
not_both b h k = cc

plain_found : (test : Entry → Bool) (more : List Entry) → ArePlain more → is_parameter (entry_or (find test more)).kind ≡ true → ⊥
plain_found test [] plain h = cc h
plain_found test (e ∷ es) plain h = plain_case (test e) e (find test es) plain.0 (plain_found test es plain.1) h where
  plain_case : (b : Bool) (e : Entry) (r : Option Entry) → is_parameter e.kind ≡ false → (is_parameter (entry_or r).kind ≡ true → ⊥) → is_parameter (entry_or (if b then Some e else r)).kind ≡ true → ⊥
  plain_case true e r p f h = not_both (is_parameter e.kind) h p
  plain_case false e r p f h = f h

found_before : (test : Entry → Bool) (names more : List Entry) → ArePlain more → is_parameter (entry_or (find test (names ++ more))).kind ≡ true → find test names ≡ find test (names ++ more)
found_before test [] more plain h = absurd (plain_found test more plain h)
found_before test (e ∷ es) more plain h = before_case (test e) e (find test es) (find test (es ++ more)) (found_before test es more plain) h where
  before_case : (b : Bool) (e : Entry) (r s : Option Entry) → (is_parameter (entry_or s).kind ≡ true → r ≡ s) → is_parameter (entry_or (if b then Some e else s)).kind ≡ true → (if b then Some e else r) ≡ (if b then Some e else s)
  before_case true e r s f h = refl
  before_case false e r s f h = f h

pub plain_agree : (names more : List Entry) → ArePlain more → Agrees (names ++ more) names
plain_agree names more plain = record { same = λ name h. ap entry_or (found_before (λ (e : Entry). bytes_eq e.name name) names more plain h) }
