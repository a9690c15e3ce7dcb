-- What is held of chains and shifts, and of one operator more behind them.
use Rattle.std.proofs.Common.{◌≡◌, refl, sym, ap, ◌∙◌, ◌&&◌, ℕ, List, [], ◌∷◌, ◌++◌, map, Bool, true, false}
use Rattle.std.specs.List.{list_all}
use Rattle.std.proofs.Math.Path.{fun_ext}
use Rattle.std.proofs.Math.Bool.{and_assoc}
use Rattle.std.proofs.lemmas.List.Folds.{list_all-map, list_all-append}
use Rattle.v_syntax.specs.declared.expr.UnaryOperator.{UnaryOperator}
use Rattle.v_syntax.specs.declared.expr.BinaryOperator.{BinaryOperator}
use Rattle.v_meaning.specs.Senses.{class_of, operation, operation_before}
use Rattle.v_constants.specs.declared.body.Body.{Body}
use Rattle.v_constants.specs.declared.body.Body.TheVariants as e
use Rattle.v_constants.specs.declared.body.Body.TheOpen as o
use Rattle.v_constants.specs.declared.body.Body.TheFolds.{fold-roll-Body}
use Rattle.v_constants.specs.Bodies.{Held, is_shifted, chain_value, held_step, held}
use Rattle.v_constants.proofs.OpenLaws.{second_of}

chain_map : {X Y : Type 0} (value : Y → ℕ) (f : X → Y) (w : ℕ) (s : Bool) (n : ℕ) (links : List (BinaryOperator × X)) →
    chain_value value w s n (map (λ (l : BinaryOperator × X). (l.0, f l.1)) links) ≡ chain_value (λ (x : X). value (f x)) w s n links
chain_map value f w s n [] = refl
chain_map value f w s n (l ∷ ls) = chain_map value f w s (operation l.0 w s n (value (f l.1))) ls

-- operators behind a first operand, with the value of each other one and whether it can be had
abbrev pub behind : {X : Type 0} → (X → ℕ → Bool → ℕ) → (ℕ → BinaryOperator × X → Bool) → Held → List (BinaryOperator × X) → Held
behind value fits x links = record {
  value = λ w s. chain_value (λ y. value y w s) w s (x.value w s) links;
  fits = λ w. x.fits w && list_all (fits w) links;
}

abbrev pub of_body : Body → ℕ → Bool → ℕ
of_body x w s = (held x).value w s

abbrev pub body_fits : ℕ → BinaryOperator × Body → Bool
body_fits w link = (held link.1).fits w

abbrev pub of_number : ℕ → ℕ → Bool → ℕ
of_number n w s = n

abbrev pub is_shift : ℕ → BinaryOperator × ℕ → Bool
is_shift w link = is_shifted (class_of link.0)

pub held_unary : (op : UnaryOperator) (x : Body) → held (e.Unary op x) ≡ record { value = λ w s. operation_before op w ((held x).value w s); fits = (held x).fits }
held_unary op x = ap held (sym (e.rolls-Unary op x)) ∙ fold-roll-Body Held held_step (o.Unary op x)

pub held_chain : (x : Body) (links : List (BinaryOperator × Body)) → held (e.Chain x links) ≡ behind of_body body_fits (held x) links
held_chain x links =
    ap held (sym (e.rolls-Chain x links)) ∙ fold-roll-Body Held held_step (o.Chain x links)
    ∙ (λ i. record {
      value = fun_ext (λ w. fun_ext (λ s. chain_map (λ (y : Held). y.value w s) held w s ((held x).value w s) links)) i;
      fits = fun_ext (λ w. ap (λ (b : Bool). (held x).fits w && b) (list_all-map (λ (l : BinaryOperator × Held). l.1.fits w) (λ (l : BinaryOperator × Body). (l.0, held l.1)) links)) i;
    })

pub held_shifts : (x : Body) (links : List (BinaryOperator × ℕ)) → held (e.Shifts x links) ≡ behind of_number is_shift (held x) links
held_shifts x links = ap held (sym (e.rolls-Shifts x links)) ∙ fold-roll-Body Held held_step (o.Shifts x links)

-- ---- one operator more

chain_push : {X : Type 0} (value : X → ℕ) (w : ℕ) (s : Bool) (n : ℕ) (links : List (BinaryOperator × X)) (l : BinaryOperator × X) →
    chain_value value w s n (links ++ l ∷ []) ≡ operation l.0 w s (chain_value value w s n links) (value l.1)
chain_push value w s n [] l = refl
chain_push value w s n (x ∷ xs) l = chain_push value w s (operation x.0 w s n (value x.1)) xs l

and_true : (b : Bool) → (b && true) ≡ b
and_true true = refl
and_true false = refl

all_push : {X : Type 0} (b : Bool) (test : X → Bool) (xs : List X) (x : X) → (b && list_all test (xs ++ x ∷ [])) ≡ ((b && list_all test xs) && test x)
all_push b test xs x =
    ap (λ (r : Bool). b && r) (list_all-append test xs (x ∷ []) ∙ ap (λ (r : Bool). list_all test xs && r) (and_true (test x)))
    ∙ sym (and_assoc b (list_all test xs) (test x))

-- an operator behind what is held
abbrev pub one_behind : {X : Type 0} → (X → ℕ → Bool → ℕ) → (ℕ → BinaryOperator × X → Bool) → Held → BinaryOperator × X → Held
one_behind value fits x link = record {
  value = λ w s. operation link.0 w s (x.value w s) (value link.1 w s);
  fits = λ w. x.fits w && fits w link;
}

behind_push : {X : Type 0} (value : X → ℕ → Bool → ℕ) (fits : ℕ → BinaryOperator × X → Bool) (x : Held) (links : List (BinaryOperator × X)) (l : BinaryOperator × X) →
    behind value fits x (links ++ l ∷ []) ≡ one_behind value fits (behind value fits x links) l
behind_push value fits x links l = λ i. record {
  value = fun_ext (λ w. fun_ext (λ s. chain_push (λ y. value y w s) w s (x.value w s) links l)) i;
  fits = fun_ext (λ w. all_push (x.fits w) (fits w) links l) i;
}

behind_nothing : {X : Type 0} (value : X → ℕ → Bool → ℕ) (fits : ℕ → BinaryOperator × X → Bool) (x : Held) → behind value fits x [] ≡ x
behind_nothing value fits x = λ i. record { value = x.value; fits = fun_ext (λ w. and_true (x.fits w)) i }

pub linked_behind : (x first y : Body) (op : BinaryOperator) (links more : List (BinaryOperator × Body)) → x ≡ e.Chain first links → more ≡ links ++ (op, y) ∷ [] →
    held (e.Chain first more) ≡ one_behind of_body body_fits (held x) (op, y)
linked_behind x first y op links more p q =
    ap (λ (r : List (BinaryOperator × Body)). held (e.Chain first r)) q ∙ held_chain first (links ++ (op, y) ∷ [])
    ∙ behind_push of_body body_fits (held first) links (op, y)
    ∙ ap (λ (h : Held). one_behind of_body body_fits h (op, y)) (sym (held_chain first links) ∙ sym (ap held p))

pub linked_first : (x first y : Body) (op : BinaryOperator) (start links : List (BinaryOperator × Body)) → first ≡ x → start ≡ [] → links ≡ start ++ (op, y) ∷ [] →
    held (e.Chain first links) ≡ one_behind of_body body_fits (held x) (op, y)
linked_first x first y op start links is p q =
    linked_behind (e.Chain first start) first y op start links refl q
    ∙ ap (λ (h : Held). one_behind of_body body_fits h (op, y))
    (held_chain first start ∙ ap (behind of_body body_fits (held first)) p ∙ behind_nothing of_body body_fits (held first) ∙ ap held is)

-- ---- one shift more

-- a shift of what is held
abbrev pub shift_behind : Held → BinaryOperator → ℕ → Held
shift_behind x op by = record { value = λ w s. operation op w s (x.value w s) by; fits = x.fits }

shift_one : (x : Held) (op : BinaryOperator) (by : ℕ) → is_shifted (class_of op) ≡ true → one_behind of_number is_shift x (op, by) ≡ shift_behind x op by
shift_one x op by h = λ i. record {
  value = λ w s. operation op w s (x.value w s) by;
  fits = fun_ext (λ w. ap (λ (b : Bool). x.fits w && b) h ∙ and_true (x.fits w)) i;
}

pub shifted_behind : (x first : Body) (op : BinaryOperator) (by : ℕ) (links more : List (BinaryOperator × ℕ)) → is_shifted (class_of op) ≡ true → x ≡ e.Shifts first links →
    more ≡ links ++ (op, by) ∷ [] → held (e.Shifts first more) ≡ shift_behind (held x) op by
shifted_behind x first op by links more h p q =
    ap (λ (r : List (BinaryOperator × ℕ)). held (e.Shifts first r)) q ∙ held_shifts first (links ++ (op, by) ∷ [])
    ∙ behind_push of_number is_shift (held first) links (op, by)
    ∙ ap (λ (g : Held). one_behind of_number is_shift g (op, by)) (sym (held_shifts first links) ∙ sym (ap held p)) ∙ shift_one (held x) op by h

pub shifted_first : (x first : Body) (op : BinaryOperator) (by : ℕ) (start links : List (BinaryOperator × ℕ)) → is_shifted (class_of op) ≡ true → first ≡ x → start ≡ [] →
    links ≡ start ++ (op, by) ∷ [] → held (e.Shifts first links) ≡ shift_behind (held x) op by
shifted_first x first op by start links h is p q =
    shifted_behind (e.Shifts first start) first op by start links h refl q
    ∙ ap (λ (g : Held). shift_behind g op by)
    (held_shifts first start ∙ ap (behind of_number is_shift (held first)) p ∙ behind_nothing of_number is_shift (held first) ∙ ap held is)

-- ---- evaluation

pub behind_fits : {X : Type 0} (value : X → ℕ → Bool → ℕ) (fits : ℕ → BinaryOperator × X → Bool) (body x : Body) (links more : List (BinaryOperator × X)) (w : ℕ) →
    held body ≡ behind value fits (held x) links → more ≡ links → (held body).fits w ≡ true → list_all (fits w) more ≡ true
behind_fits value fits body x links more w is p h =
    ap (list_all (fits w)) p ∙ second_of ((held x).fits w) (list_all (fits w) links) (sym (ap (λ (g : Held). g.fits w) is) ∙ h)

pub behind_value : {X : Type 0} (value : X → ℕ → Bool → ℕ) (fits : ℕ → BinaryOperator × X → Bool) (body x y : Body) (links more : List (BinaryOperator × X)) (w : ℕ) (s : Bool) (first r : ℕ) →
    held body ≡ behind value fits (held x) links → y ≡ x → more ≡ links → first ≡ (held y).value w s → r ≡ chain_value (λ (z : X). value z w s) w s first more → r ≡ (held body).value w s
behind_value value fits body x y links more w s first r is p q f h =
    h ∙ ap (λ n. chain_value (λ z. value z w s) w s n more) (f ∙ ap (λ (z : Body). (held z).value w s) p)
    ∙ ap (chain_value (λ z. value z w s) w s ((held x).value w s)) q ∙ sym (ap (λ (g : Held). g.value w s) is)
