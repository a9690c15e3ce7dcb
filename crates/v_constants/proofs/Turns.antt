-- A turn of a loop over the operands of a chain, or over parts.
use Rattle.std.proofs.Common.{◌≡◌, ◌<◌, ◌≤◌, ◌+◌, ◌&&◌, ap, sym, ◌∙◌, ℕ, suc, length, get_or, drop, drop-cons, add-one, List, ◌∷◌, Bool, true, false}
use Rattle.std.specs.List.{list_all}
use Rattle.std.proofs.lemmas.List.{drop_all}
use Rattle.v_syntax.specs.declared.expr.BinaryOperator.{BinaryOperator}
use Rattle.v_meaning.specs.Senses.{operation}
use Rattle.v_constants.specs.Bodies.{chain_value}
use Rattle.v_constants.proofs.OpenLaws.{first_of, second_of}

pub next_is : {X : Type 0} (xs : List X) (i : ℕ) (x : X) → i < length xs → x ≡ get_or xs i x → drop i xs ≡ x ∷ drop (i + 1) xs
next_is xs i x h is = rw (add-one i) (drop-cons xs i x h ∙ ap (λ y. y ∷ drop (suc i) xs) (sym is))

-- ---- operators from the left

pub chain_next : {X : Type 0} (value : X → ℕ) (w : ℕ) (s : Bool) (left next whole : ℕ) (links : List (BinaryOperator × X)) (i : ℕ) (l : BinaryOperator × X) →
    i < length links → l ≡ get_or links i l → next ≡ operation l.0 w s left (value l.1) →
    chain_value value w s left (drop i links) ≡ whole → chain_value value w s next (drop (i + 1) links) ≡ whole
chain_next value w s left next whole links i l h is p before =
    ap (λ n. chain_value value w s n (drop (i + 1) links)) p ∙ sym (ap (chain_value value w s left) (next_is links i l h is)) ∙ before

pub chain_done : {X : Type 0} (value : X → ℕ) (w : ℕ) (s : Bool) (left whole : ℕ) (links : List (BinaryOperator × X)) (i : ℕ) →
    length links ≤ i → chain_value value w s left (drop i links) ≡ whole → left ≡ whole
chain_done value w s left whole links i h before = sym (ap (chain_value value w s left) (drop_all i links h)) ∙ before

-- ---- a test of each element

pub all_here : {X : Type 0} (test : X → Bool) (xs : List X) (i : ℕ) (x : X) → i < length xs → x ≡ get_or xs i x → list_all test (drop i xs) ≡ (test x && list_all test (drop (i + 1) xs))
all_here test xs i x h is = ap (list_all test) (next_is xs i x h is)

pub this_passes : {X : Type 0} (test : X → Bool) (xs : List X) (i : ℕ) (x : X) → i < length xs → x ≡ get_or xs i x → list_all test (drop i xs) ≡ true → test x ≡ true
this_passes test xs i x h is all = first_of (test x) (list_all test (drop (i + 1) xs)) (sym (all_here test xs i x h is) ∙ all)

pub others_pass : {X : Type 0} (test : X → Bool) (xs : List X) (i : ℕ) (x : X) → i < length xs → x ≡ get_or xs i x → list_all test (drop i xs) ≡ true →
    list_all test (drop (i + 1) xs) ≡ true
others_pass test xs i x h is all = second_of (test x) (list_all test (drop (i + 1) xs)) (sym (all_here test xs i x h is) ∙ all)

-- as far as these elements pass, the others decide
pub others_decide : {X : Type 0} (test : X → Bool) (xs : List X) (i : ℕ) (x : X) (whole : Bool) → i < length xs → x ≡ get_or xs i x → test x ≡ true →
    list_all test (drop i xs) ≡ whole → list_all test (drop (i + 1) xs) ≡ whole
others_decide test xs i x whole h is passes before = sym (all_here test xs i x h is ∙ ap (λ (b : Bool). b && list_all test (drop (i + 1) xs)) passes) ∙ before

pub this_decides : {X : Type 0} (test : X → Bool) (xs : List X) (i : ℕ) (x : X) (whole : Bool) → i < length xs → x ≡ get_or xs i x → test x ≡ false →
    list_all test (drop i xs) ≡ whole → whole ≡ false
this_decides test xs i x whole h is fails before = sym (sym (all_here test xs i x h is ∙ ap (λ (b : Bool). b && list_all test (drop (i + 1) xs)) fails) ∙ before)

pub all_passed : {X : Type 0} (test : X → Bool) (xs : List X) (i : ℕ) (whole : Bool) → length xs ≤ i → list_all test (drop i xs) ≡ whole → whole ≡ true
all_passed test xs i whole h before = sym (sym (ap (list_all test) (drop_all i xs h)) ∙ before)
