-- What chains mean whose final width and sign are open.
use denote.Param.Weighed.{most, most-append}
use Rattle.std.proofs.Common.{arith, ◌≤◌, max, ◌≡◌, ap, sym, ◌∙◌, refl, ℕ, Bool, List, [], ◌∷◌, ◌++◌, map, reverse, true, false}
use Rattle.std.proofs.Math.Path.{fun_ext}
use Rattle.std.proofs.lemmas.List.{reverse-append, append_assoc}
use Rattle.std.specs.Prelude.{◌==◌, if◌then◌else◌, nat_le}
use Rattle.v_syntax.specs.declared.expr.UnaryOperator.{UnaryOperator}
use Rattle.v_syntax.specs.declared.expr.BinaryOperator.{BinaryOperator}
use Rattle.v_meaning.specs.Views.{View}
use Rattle.v_meaning.specs.Senses.{operation, operation_before, extended}
use Rattle.v_meaning.specs.declared.names.Entry.{Entry}
use Rattle.v_core.specs.declared.typed.Link.{Link}
use Rattle.v_core.specs.declared.open.Body.{Body}
use Rattle.v_core.specs.declared.open.Body.TheVariants as e
use Rattle.v_core.specs.declared.open.Body.TheOpen as o
use Rattle.v_core.specs.declared.open.Body.TheFolds.{fold-roll-Body}
use Rattle.v_core.specs.declared.typed.Typed.{Typed}
use Rattle.v_core.specs.Values.{Value, chain_value, typed_value, link_values}
use Rattle.v_core.proofs.TypedLaws.{chain_value_push, link_values_push, link_values_reverse}
use Rattle.v_core.specs.Bodies.{Fixed, body_step, body_value, link_bodies, fixed_links}

bodies_map : (links : List (BinaryOperator × Body)) → map (λ (l : BinaryOperator × Body). (l.0, body_value l.1)) links ≡ link_bodies links
bodies_map [] = refl
bodies_map (l ∷ ls) = ap (λ (r : List (BinaryOperator × Fixed)). (l.0, body_value l.1) ∷ r) (bodies_map ls)

pub body_chain : (x : Body) (links : List (BinaryOperator × Body)) →
    body_value (e.Chain x links) ≡ (λ w s names v. chain_value (body_value x w s names v) (fixed_links (link_bodies links) w s) names v)
body_chain x links =
    ap body_value (sym (e.rolls-Chain x links)) ∙ fold-roll-Body Fixed body_step (o.Chain x links)
    ∙ ap {B = Fixed} (λ (r : List (BinaryOperator × Fixed)) (w : ℕ) (s : Bool) (names : List Entry) (v : View). chain_value (body_value x w s names v) (fixed_links r w s) names v) (bodies_map links)

pub link_bodies_push : (links : List (BinaryOperator × Body)) (l : BinaryOperator × Body) → link_bodies (links ++ l ∷ []) ≡ link_bodies links ++ (l.0, body_value l.1) ∷ []
link_bodies_push [] l = refl
link_bodies_push (x ∷ xs) l = ap (λ (r : List (BinaryOperator × Fixed)). (x.0, body_value x.1) ∷ r) (link_bodies_push xs l)

pub fixed_links_push : (links : List (BinaryOperator × Fixed)) (l : BinaryOperator × Fixed) (w : ℕ) (s : Bool) →
    fixed_links (links ++ l ∷ []) w s ≡ fixed_links links w s ++ (record { operator = l.0; width = w; signed = s }, l.1 w s) ∷ []
fixed_links_push [] l w s = refl
fixed_links_push (x ∷ xs) l w s = ap (λ (r : List (Link × Value)). (record { operator = x.0; width = w; signed = s }, x.1 w s) ∷ r) (fixed_links_push xs l w s)

-- ---- the operands of a chain are fixed from the last one on

-- those that are left, and behind them those that are fixed
abbrev pub part_fixed : List (BinaryOperator × Body) → List (Link × Typed) → ℕ → Bool → List (Link × Value)
part_fixed left fixed w s = fixed_links (link_bodies left) w s ++ reverse (link_values fixed)

pub one_fixed : (old new : List (BinaryOperator × Body)) (last : BinaryOperator × Body) (x : Typed) (fixed more : List (Link × Typed)) (w : ℕ) (s : Bool) (whole : List (Link × Value)) →
    old ≡ new ++ last ∷ [] → more ≡ fixed ++ (record { operator = last.0; width = w; signed = s }, x) ∷ [] → typed_value x ≡ body_value last.1 w s →
    part_fixed old fixed w s ≡ whole → part_fixed new more w s ≡ whole
one_fixed old new last x fixed more w s whole p q is before =
    ap (λ (r : List (Link × Value)). fixed_links (link_bodies new) w s ++ r)
    (ap (λ (r : List (Link × Typed)). reverse (link_values r)) q
    ∙ ap reverse (link_values_push fixed (record { operator = last.0; width = w; signed = s }, x))
    ∙ reverse-append (link_values fixed) ((record { operator = last.0; width = w; signed = s }, typed_value x) ∷ []))
    ∙ ap (λ (f : Value). fixed_links (link_bodies new) w s ++ (record { operator = last.0; width = w; signed = s }, f) ∷ reverse (link_values fixed)) is
    ∙ sym (append_assoc (fixed_links (link_bodies new) w s) ((record { operator = last.0; width = w; signed = s }, body_value last.1 w s) ∷ []) (reverse (link_values fixed)))
    ∙ ap (λ (r : List (Link × Value)). r ++ reverse (link_values fixed))
    (sym (fixed_links_push (link_bodies new) (last.0, body_value last.1) w s)
    ∙ ap (λ (r : List (BinaryOperator × Fixed)). fixed_links r w s) (sym (link_bodies_push new last))
    ∙ ap (λ (r : List (BinaryOperator × Body)). fixed_links (link_bodies r) w s) (sym p))
    ∙ before

pub all_fixed : (left : List (BinaryOperator × Body)) (fixed all : List (Link × Typed)) (w : ℕ) (s : Bool) (whole : List (Link × Value)) →
    left ≡ [] → all ≡ reverse fixed → part_fixed left fixed w s ≡ whole → link_values all ≡ whole
all_fixed left fixed all w s whole p q before =
    ap link_values q ∙ link_values_reverse fixed
    ∙ ap (λ (r : List (BinaryOperator × Body)). fixed_links (link_bodies r) w s ++ reverse (link_values fixed)) (sym p) ∙ before

pub chain_fixed : (body x z : Body) (links : List (BinaryOperator × Body)) (y : Typed) (fixed : List (Link × Typed)) (w : ℕ) (s : Bool) →
    body ≡ e.Chain x links → z ≡ x → typed_value y ≡ body_value z w s → link_values fixed ≡ fixed_links (link_bodies links) w s →
    body_value body w s ≡ (λ names v. chain_value (typed_value y names v) (link_values fixed) names v)
chain_fixed body x z links y fixed w s is same p q =
    ap (λ (b : Body). body_value b w s) is ∙ ap (λ (f : Fixed). f w s) (body_chain x links)
    ∙ ap {B = Value} (λ (f : Value) (names : List Entry) (v : View). chain_value (f names v) (fixed_links (link_bodies links) w s) names v)
    (sym (p ∙ ap (λ (b : Body). body_value b w s) same))
    ∙ ap {B = Value} (λ (r : List (Link × Value)) (names : List Entry) (v : View). chain_value (typed_value y names v) r names v) (sym q)

pub unary_fixed : (body x z : Body) (op : UnaryOperator) (y : Typed) (w : ℕ) (s : Bool) →
    body ≡ e.Unary op x → z ≡ x → typed_value y ≡ body_value z w s → body_value body w s ≡ (λ names v. operation_before op w (typed_value y names v))
unary_fixed body x z op y w s is same p =
    ap (λ (b : Body). body_value b w s) (is ∙ sym (e.rolls-Unary op x)) ∙ ap (λ (f : Fixed). f w s) (fold-roll-Body Fixed body_step (o.Unary op x))
    ∙ ap {B = Value} (λ (f : Value) (names : List Entry) (v : View). operation_before op w (f names v)) (sym (p ∙ ap (λ (b : Body). body_value b w s) same))

pub choice_fixed : (body x x' y y' : Body) (c a b : Typed) (w : ℕ) (s : Bool) →
    body ≡ e.Choice c x y → x' ≡ x → y' ≡ y → typed_value a ≡ body_value x' w s → typed_value b ≡ body_value y' w s →
    body_value body w s ≡ (λ names v. if typed_value c names v == 0 then typed_value b names v else typed_value a names v)
choice_fixed body x x' y y' c a b w s is same same' p q =
    ap (λ (b : Body). body_value b w s) (is ∙ sym (e.rolls-Choice c x y)) ∙ ap (λ (f : Fixed). f w s) (fold-roll-Body Fixed body_step (o.Choice c x y))
    ∙ ap {B = Value} (λ (f : Value) (names : List Entry) (v : View). if typed_value c names v == 0 then body_value y w s names v else f names v)
    (sym (p ∙ ap (λ (b : Body). body_value b w s) same))
    ∙ ap {B = Value} (λ (f : Value) (names : List Entry) (v : View). if typed_value c names v == 0 then f names v else typed_value a names v)
    (sym (q ∙ ap (λ (b : Body). body_value b w s) same'))

-- ---- one more operator behind a chain

-- an operator between operands that take the final width and sign
abbrev pub between : BinaryOperator → Fixed → Fixed → Fixed
between op x y w s names v = operation op w s (x w s names v) (y w s names v)

body_push : (x : Body) (links : List (BinaryOperator × Body)) (l : BinaryOperator × Body) →
    body_value (e.Chain x (links ++ l ∷ [])) ≡ between l.0 (body_value (e.Chain x links)) (body_value l.1)
body_push x links l =
    body_chain x (links ++ l ∷ [])
    ∙ ap {B = Fixed} (λ (r : List (BinaryOperator × Fixed)) (w : ℕ) (s : Bool) (names : List Entry) (v : View). chain_value (body_value x w s names v) (fixed_links r w s) names v)
    (link_bodies_push links l)
    ∙ fun_ext (λ w. fun_ext (λ s. fun_ext (λ names. fun_ext (λ v.
    ap (λ (r : List (Link × Value)). chain_value (body_value x w s names v) r names v) (fixed_links_push (link_bodies links) (l.0, body_value l.1) w s)
    ∙ chain_value_push (body_value x w s names v) (fixed_links (link_bodies links) w s) (record { operator = l.0; width = w; signed = s }, body_value l.1 w s) names v))))
    ∙ ap (λ (f : Fixed). between l.0 f (body_value l.1)) (sym (body_chain x links))

pub body_behind_chain : (x first y : Body) (op : BinaryOperator) (links more : List (BinaryOperator × Body)) → x ≡ e.Chain first links → more ≡ links ++ (op, y) ∷ [] →
    body_value (e.Chain first more) ≡ between op (body_value x) (body_value y)
body_behind_chain x first y op links more p q =
    ap (λ (r : List (BinaryOperator × Body)). body_value (e.Chain first r)) q ∙ body_push first links (op, y)
    ∙ ap (λ (z : Body). between op (body_value z) (body_value y)) (sym p)

pub body_behind : (x y first : Body) (op : BinaryOperator) (start links : List (BinaryOperator × Body)) → first ≡ x → start ≡ [] → links ≡ start ++ (op, y) ∷ [] →
    body_value (e.Chain first links) ≡ between op (body_value x) (body_value y)
body_behind x y first op start links is p q =
    ap (λ (z : Body). body_value (e.Chain z links)) is
    ∙ ap (λ (r : List (BinaryOperator × Body)). body_value (e.Chain x r)) (q ∙ ap (λ (r : List (BinaryOperator × Body)). r ++ (op, y) ∷ []) p)
    ∙ body_chain x ((op, y) ∷ [])

same_in_both : (b : Bool) (n : ℕ) → (if b then n else n) ≡ n
same_in_both true n = refl
same_in_both false n = refl

-- an unsigned value is the same at a greater width
pub leaf_unsigned : (body : Body) (from : ℕ) (x : Typed) (w : ℕ) (s : Bool) → body ≡ e.Leaf from x → s ≡ false → typed_value x ≡ body_value body w s
leaf_unsigned body from x w s is p =
    sym
    (ap (λ (b : Body). body_value b w s) (is ∙ sym (e.rolls-Leaf from x)) ∙ ap (λ (f : Fixed). f w s) (fold-roll-Body Fixed body_step (o.Leaf from x))
    ∙ ap {B = Value} (λ (t : Bool) (names : List Entry) (v : View). extended from (typed_value x names v) w t) p
    ∙ fun_ext (λ names. fun_ext (λ v. same_in_both (nat_le w from) (typed_value x names v))))

-- the front of a list is no deeper than the list
pub front_no_deeper : {X : Type 0} (μ : X → ℕ) (old new more : List X) (bound : ℕ) → old ≡ new ++ more → most μ old ≤ bound → most μ new ≤ bound
front_no_deeper μ old new more bound is h =
    let e : most μ old ≡ max (most μ new) (most μ more) = ap (most μ) is ∙ most-append μ new more in
    omega (arith, e, h)
