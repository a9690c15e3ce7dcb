-- The turns of writes one after another.
use Rattle.std.proofs.Common.{◌≡◌, ◌≤◌, ◌<◌, ◌+◌, ap, sym, ◌∙◌, arith, ℕ, zero, suc, length, get_or, drop, drop-cons, add-one, List, [], ◌∷◌, Bool, true}
use Rattle.std.specs.List.{list_all}
use Rattle.std.proofs.lemmas.List.{drop_all}
use Rattle.std.proofs.lemmas.List.Folds.{list_all-map}
use Rattle.v_meaning.specs.Views.{View, applied}
use Rattle.v_values.specs.declared.writing.Write.{Write}
use Rattle.v_values.specs.Moments.{Shape}
use Rattle.v_values.specs.Writes.{all_fit, write_fits, write_in, writes_in}
use Rattle.v_values.proofs.Tests.{first_of, second_of}

pub next_at : {X : Type 0} (xs : List X) (i : ℕ) (d : X) → i < length xs → drop i xs ≡ get_or xs i d ∷ drop (i + 1) xs
next_at xs i d h = rw (add-one i) (drop-cons xs i d h)

one_at : {X : Type 0} (test : X → Bool) (xs : List X) (i : ℕ) (d : X) → i < length xs → list_all test xs ≡ true → test (get_or xs i d) ≡ true
one_at test [] i d h all = absurd (omega arith)
one_at test (x ∷ xs) zero d h all = first_of (test x) (list_all test xs) all
one_at test (x ∷ xs) (suc i) d h all = one_at test xs i d (omega arith) (second_of (test x) (list_all test xs) all)

pub this_fits : (s t : Shape) (ws : List Write) (i : ℕ) (d : Write) → i < length ws → t ≡ s → all_fit s (writes_in ws) ≡ true → write_fits t (write_in (get_or ws i d)) ≡ true
this_fits s t ws i d h e all =
    ap (λ (r : Shape). write_fits r (write_in (get_or ws i d))) e
    ∙ one_at (λ (w : Write). write_fits s (write_in w)) ws i d h (sym (list_all-map (write_fits s) write_in ws) ∙ all)

-- what is left of writes gives what all of them give
pub applied_next : (whole v next : View) (ws : List Write) (i : ℕ) (d : Write) → i < length ws → next ≡ applied v (write_in (get_or ws i d) ∷ []) →
    applied v (writes_in (drop i ws)) ≡ whole → applied next (writes_in (drop (i + 1) ws)) ≡ whole
applied_next whole v next ws i d h e before =
    ap (λ (u : View). applied u (writes_in (drop (i + 1) ws))) e
    ∙ sym (ap (λ (r : List Write). applied v (writes_in r)) (next_at ws i d h)) ∙ before

pub applied_last : (whole v : View) (ws : List Write) (i : ℕ) → length ws ≤ i → applied v (writes_in (drop i ws)) ≡ whole → v ≡ whole
applied_last whole v ws i h before = sym (ap (λ (r : List Write). applied v (writes_in r)) (drop_all i ws h)) ∙ before
