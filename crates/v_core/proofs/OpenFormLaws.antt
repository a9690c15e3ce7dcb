-- How expressions keep to their widths whose final width and sign are open.
use Rattle.std.proofs.Common.{◌≡◌, ◌≤◌, arith, ap, sym, ◌∙◌, refl, ℕ, Bool, List, [], ◌∷◌, ◌++◌, map, reverse, true, false}
use Rattle.std.proofs.Math.Path.{fun_ext}
use Rattle.std.proofs.lemmas.List.{reverse-append, append_assoc}
use Rattle.std.proofs.lemmas.Bool.{leb-false, le-leb, eqb-true}
use Rattle.std.specs.Prelude.{◌==◌, ◌&&◌, if◌then◌else◌, nat_le, nat_lt}
use Rattle.v_syntax.specs.declared.expr.UnaryOperator.{UnaryOperator}
use Rattle.v_syntax.specs.declared.expr.BinaryOperator.{BinaryOperator}
use Rattle.v_meaning.specs.declared.names.Entry.{Entry}
use Rattle.v_core.specs.declared.typed.Link.{Link}
use Rattle.v_core.specs.declared.open.Body.{Body}
use Rattle.v_core.specs.declared.open.Body.TheVariants as e
use Rattle.v_core.specs.declared.open.Body.TheOpen as o
use Rattle.v_core.specs.declared.open.Body.TheFolds.{fold-roll-Body}
use Rattle.v_core.specs.declared.typed.Typed.{Typed}
use Rattle.v_core.specs.Formed.{Formed, FormedIn, formed, formed_chain, has, has_at_most, is_width, link_forms}
use Rattle.v_core.specs.OpenForms.{FixedForm, body_form, body_form_step, body_forms, chosen_form, extended_form, fixed_forms, linked_form, prefixed_form}
use Rattle.v_core.proofs.FormLaws.{formed_chain_push, link_forms_push, link_forms_reverse}

bodies_map : (links : List (BinaryOperator × Body)) → map (λ (l : BinaryOperator × Body). (l.0, body_form l.1)) links ≡ body_forms links
bodies_map [] = refl
bodies_map (l ∷ ls) = ap (λ (r : List (BinaryOperator × FixedForm)). (l.0, body_form l.1) ∷ r) (bodies_map ls)

pub body_form_chain : (x : Body) (links : List (BinaryOperator × Body)) →
    body_form (e.Chain x links) ≡ (λ w s names. formed_chain (body_form x w s names) (fixed_forms (body_forms links) w s) names)
body_form_chain x links =
    ap body_form (sym (e.rolls-Chain x links)) ∙ fold-roll-Body FixedForm body_form_step (o.Chain x links)
    ∙ ap {B = FixedForm} (λ (r : List (BinaryOperator × FixedForm)) (w : ℕ) (s : Bool) (names : List Entry). formed_chain (body_form x w s names) (fixed_forms r w s) names) (bodies_map links)

body_forms_push : (links : List (BinaryOperator × Body)) (l : BinaryOperator × Body) → body_forms (links ++ l ∷ []) ≡ body_forms links ++ (l.0, body_form l.1) ∷ []
body_forms_push [] l = refl
body_forms_push (x ∷ xs) l = ap (λ (r : List (BinaryOperator × FixedForm)). (x.0, body_form x.1) ∷ r) (body_forms_push xs l)

fixed_forms_push : (links : List (BinaryOperator × FixedForm)) (l : BinaryOperator × FixedForm) (w : ℕ) (s : Bool) →
    fixed_forms (links ++ l ∷ []) w s ≡ fixed_forms links w s ++ (record { operator = l.0; width = w; signed = s }, l.1 w s) ∷ []
fixed_forms_push [] l w s = refl
fixed_forms_push (x ∷ xs) l w s = ap (λ (r : List (Link × FormedIn)). (record { operator = x.0; width = w; signed = s }, x.1 w s) ∷ r) (fixed_forms_push xs l w s)

-- ---- the operands of a chain are fixed from the last one on

-- those that are left, and behind them those that are fixed
abbrev pub part_formed : List (BinaryOperator × Body) → List (Link × Typed) → ℕ → Bool → List (Link × FormedIn)
part_formed left fixed w s = fixed_forms (body_forms left) w s ++ reverse (link_forms fixed)

pub one_formed : (old new : List (BinaryOperator × Body)) (last : BinaryOperator × Body) (x : Typed) (fixed more : List (Link × Typed)) (w : ℕ) (s : Bool) (whole : List (Link × FormedIn)) →
    old ≡ new ++ last ∷ [] → more ≡ fixed ++ (record { operator = last.0; width = w; signed = s }, x) ∷ [] → formed x ≡ body_form last.1 w s →
    part_formed old fixed w s ≡ whole → part_formed new more w s ≡ whole
one_formed old new last x fixed more w s whole p q is before =
    ap (λ (r : List (Link × FormedIn)). fixed_forms (body_forms new) w s ++ r)
    (ap (λ (r : List (Link × Typed)). reverse (link_forms r)) q
    ∙ ap reverse (link_forms_push fixed (record { operator = last.0; width = w; signed = s }, x))
    ∙ reverse-append (link_forms fixed) ((record { operator = last.0; width = w; signed = s }, formed x) ∷ []))
    ∙ ap (λ (f : FormedIn). fixed_forms (body_forms new) w s ++ (record { operator = last.0; width = w; signed = s }, f) ∷ reverse (link_forms fixed)) is
    ∙ sym (append_assoc (fixed_forms (body_forms new) w s) ((record { operator = last.0; width = w; signed = s }, body_form last.1 w s) ∷ []) (reverse (link_forms fixed)))
    ∙ ap (λ (r : List (Link × FormedIn)). r ++ reverse (link_forms fixed))
    (sym (fixed_forms_push (body_forms new) (last.0, body_form last.1) w s)
    ∙ ap (λ (r : List (BinaryOperator × FixedForm)). fixed_forms r w s) (sym (body_forms_push new last))
    ∙ ap (λ (r : List (BinaryOperator × Body)). fixed_forms (body_forms r) w s) (sym p))
    ∙ before

pub all_formed : (left : List (BinaryOperator × Body)) (fixed all : List (Link × Typed)) (w : ℕ) (s : Bool) (whole : List (Link × FormedIn)) →
    left ≡ [] → all ≡ reverse fixed → part_formed left fixed w s ≡ whole → link_forms all ≡ whole
all_formed left fixed all w s whole p q before =
    ap link_forms q ∙ link_forms_reverse fixed
    ∙ ap (λ (r : List (BinaryOperator × Body)). fixed_forms (body_forms r) w s ++ reverse (link_forms fixed)) (sym p) ∙ before

pub chain_formed : (body x z : Body) (links : List (BinaryOperator × Body)) (y : Typed) (fixed : List (Link × Typed)) (w : ℕ) (s : Bool) →
    body ≡ e.Chain x links → z ≡ x → formed y ≡ body_form z w s → link_forms fixed ≡ fixed_forms (body_forms links) w s →
    body_form body w s ≡ (λ names. formed_chain (formed y names) (link_forms fixed) names)
chain_formed body x z links y fixed w s is same p q =
    ap (λ (b : Body). body_form b w s) is ∙ ap (λ (f : FixedForm). f w s) (body_form_chain x links)
    ∙ ap {B = FormedIn} (λ (f : FormedIn) (names : List Entry). formed_chain (f names) (fixed_forms (body_forms links) w s) names)
    (sym (p ∙ ap (λ (b : Body). body_form b w s) same))
    ∙ ap {B = FormedIn} (λ (r : List (Link × FormedIn)) (names : List Entry). formed_chain (formed y names) r names) (sym q)

pub unary_formed : (body x z : Body) (op : UnaryOperator) (y : Typed) (w : ℕ) (s : Bool) →
    body ≡ e.Unary op x → z ≡ x → formed y ≡ body_form z w s → body_form body w s ≡ (λ names. prefixed_form op w (formed y names))
unary_formed body x z op y w s is same p =
    ap (λ (b : Body). body_form b w s) (is ∙ sym (e.rolls-Unary op x)) ∙ ap (λ (f : FixedForm). f w s) (fold-roll-Body FixedForm body_form_step (o.Unary op x))
    ∙ ap {B = FormedIn} (λ (f : FormedIn) (names : List Entry). prefixed_form op w (f names)) (sym (p ∙ ap (λ (b : Body). body_form b w s) same))

pub choice_formed : (body x x' y y' : Body) (c a b : Typed) (w : ℕ) (s : Bool) →
    body ≡ e.Choice c x y → x' ≡ x → y' ≡ y → formed a ≡ body_form x' w s → formed b ≡ body_form y' w s →
    body_form body w s ≡ (λ names. chosen_form w (formed c names) (formed a names) (formed b names))
choice_formed body x x' y y' c a b w s is same same' p q =
    ap (λ (b : Body). body_form b w s) (is ∙ sym (e.rolls-Choice c x y)) ∙ ap (λ (f : FixedForm). f w s) (fold-roll-Body FixedForm body_form_step (o.Choice c x y))
    ∙ ap {B = FormedIn} (λ (f : FormedIn) (names : List Entry). chosen_form w (formed c names) (f names) (body_form y w s names))
    (sym (p ∙ ap (λ (b : Body). body_form b w s) same))
    ∙ ap {B = FormedIn} (λ (f : FormedIn) (names : List Entry). chosen_form w (formed c names) (formed a names) (f names))
    (sym (q ∙ ap (λ (b : Body). body_form b w s) same'))

-- ---- one more operator behind a chain

-- an operator between operands that take the final width and sign
abbrev pub form_between : BinaryOperator → FixedForm → FixedForm → FixedForm
form_between op x y w s names = linked_form (record { operator = op; width = w; signed = s }) (x w s names) (y w s names)

form_push : (x : Body) (links : List (BinaryOperator × Body)) (l : BinaryOperator × Body) →
    body_form (e.Chain x (links ++ l ∷ [])) ≡ form_between l.0 (body_form (e.Chain x links)) (body_form l.1)
form_push x links l =
    body_form_chain x (links ++ l ∷ [])
    ∙ ap {B = FixedForm} (λ (r : List (BinaryOperator × FixedForm)) (w : ℕ) (s : Bool) (names : List Entry). formed_chain (body_form x w s names) (fixed_forms r w s) names)
    (body_forms_push links l)
    ∙ fun_ext (λ w. fun_ext (λ s. fun_ext (λ names.
    ap (λ (r : List (Link × FormedIn)). formed_chain (body_form x w s names) r names) (fixed_forms_push (body_forms links) (l.0, body_form l.1) w s)
    ∙ formed_chain_push (body_form x w s names) (fixed_forms (body_forms links) w s) (record { operator = l.0; width = w; signed = s }, body_form l.1 w s) names)))
    ∙ ap (λ (f : FixedForm). form_between l.0 f (body_form l.1)) (sym (body_form_chain x links))

pub body_form_behind_chain : (x first y : Body) (op : BinaryOperator) (links more : List (BinaryOperator × Body)) → x ≡ e.Chain first links → more ≡ links ++ (op, y) ∷ [] →
    body_form (e.Chain first more) ≡ form_between op (body_form x) (body_form y)
body_form_behind_chain x first y op links more p q =
    ap (λ (r : List (BinaryOperator × Body)). body_form (e.Chain first r)) q ∙ form_push first links (op, y)
    ∙ ap (λ (z : Body). form_between op (body_form z) (body_form y)) (sym p)

pub body_form_behind : (x y first : Body) (op : BinaryOperator) (start links : List (BinaryOperator × Body)) → first ≡ x → start ≡ [] → links ≡ start ++ (op, y) ∷ [] →
    body_form (e.Chain first links) ≡ form_between op (body_form x) (body_form y)
body_form_behind x y first op start links is p q =
    ap (λ (z : Body). body_form (e.Chain z links)) is
    ∙ ap (λ (r : List (BinaryOperator × Body)). body_form (e.Chain x r)) (q ∙ ap (λ (r : List (BinaryOperator × Body)). r ++ (op, y) ∷ []) p)
    ∙ body_form_chain x ((op, y) ∷ [])

-- ---- what stands before an operator

at_most_of : (v w : ℕ) (x : Formed) → v ≤ w → has v x ≡ true → has_at_most w x ≡ true
at_most_of v w x le h = by_test (x.width == v) refl h
  where
    by_test : (b : Bool) → (x.width == v) ≡ b → (b && x.kept) ≡ true → (nat_le x.width w && x.kept) ≡ true
    by_test true p q = ap (λ (b : Bool). b && x.kept) (le-leb x.width w (omega (arith, eqb-true x.width v p, le))) ∙ q
    by_test false p q = absurd (cc q)

last_of : (a b c d : Bool) → (a && ((b && c) && d)) ≡ true → d ≡ true
last_of true true true d h = h
last_of false b c d h = absurd (cc h)
last_of true false c d h = absurd (cc h)
last_of true true false d h = absurd (cc h)

extended_at_most : (from w : ℕ) (x : Formed) → has w (extended_form from x w) ≡ true → has_at_most w x ≡ true
extended_at_most from w x h = by_test (nat_le w from) refl h
  where
    by_test : (b : Bool) → nat_le w from ≡ b → has w (if b then x else record { width = w; kept = nat_lt from w && is_width w && has from x }) ≡ true →
        has_at_most w x ≡ true
    by_test true p q = at_most_of w w x (omega arith) q
    by_test false p q = at_most_of from w x (omega (arith, leb-false w from p)) (last_of (w == w) (nat_lt from w) (is_width w) (has from x) q)

pub before_at_most : (body : Body) (from : ℕ) (x : Typed) (w : ℕ) (s : Bool) (names : List Entry) → body ≡ e.Leaf from x →
    has w (body_form body w s names) ≡ true → has_at_most w (formed x names) ≡ true
before_at_most body from x w s names is h =
    extended_at_most from w (formed x names)
    (sym (ap (λ (b : Body). has w (body_form b w s names)) (is ∙ sym (e.rolls-Leaf from x)) ∙ ap (λ (f : FixedForm). has w (f w s names)) (fold-roll-Body FixedForm body_form_step (o.Leaf from x))) ∙ h)

pub fixed_at_most : (body : Body) (t : Typed) (w : ℕ) (s : Bool) (names : List Entry) → formed t ≡ body_form body w s →
    has w (body_form body w s names) ≡ true → has_at_most w (formed t names) ≡ true
fixed_at_most body t w s names is h = at_most_of w w (formed t names) (omega arith) (ap (λ (f : FormedIn). has w (f names)) is ∙ h)
