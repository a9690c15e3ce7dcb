-- The turns of the loops: over a list from its first element on, and over one whose last element is taken off each time.
use Rattle.std.proofs.Common.{◌≡◌, ◌<◌, ◌≤◌, ◌+◌, ap, sym, ◌∙◌, refl, ℕ, suc, length, get_or, drop, drop-cons, add-one, append_assoc, List, [], ◌∷◌, ◌++◌, map, reverse, Bool, true, false}
use Rattle.std.specs.List.{list_all}
use Rattle.std.proofs.lemmas.List.{map-append, append-nil, drop_all, reverse-append}
use Rattle.std.proofs.lemmas.List.Folds.{list_all_at}

pub next_is : {X : Type 0} (xs : List X) (i : ℕ) (x : X) → i < length xs → x ≡ get_or xs i x → drop i xs ≡ x ∷ drop (i + 1) xs
next_is xs i x h is = rw (add-one i) (drop-cons xs i x h ∙ ap (λ y. y ∷ drop (suc i) xs) (sym is))

-- What the elements that are made mean, and behind them what those mean that are left, is what all of them mean.
abbrev pub AreSame : {A B C : Type 0} → (A → C) → (B → C) → List A → List B → ℕ → Type 0
AreSame f g made source i = map f made ++ map g (drop i source) ≡ map g source

pub one_same : {A B C : Type 0} (f : A → C) (g : B → C) (made more : List A) (source : List B) (i : ℕ) (x : B) (t : A) →
    i < length source → x ≡ get_or source i x → more ≡ made ++ t ∷ [] → f t ≡ g x → AreSame f g made source i → AreSame f g more source (i + 1)
one_same {C = C} f g made more source i x t h is p q before =
    ap (λ r. map f r ++ map g (drop (i + 1) source)) p
    ∙ ap (λ r. r ++ map g (drop (i + 1) source)) (map-append f made (t ∷ []))
    ∙ append_assoc (map f made) (f t ∷ []) (map g (drop (i + 1) source))
    ∙ ap (λ (y : C). map f made ++ y ∷ map g (drop (i + 1) source)) q
    ∙ ap (λ r. map f made ++ map g r) (sym (next_is source i x h is))
    ∙ before

pub all_same : {A B C : Type 0} (f : A → C) (g : B → C) (made : List A) (source : List B) (i : ℕ) → length source ≤ i → AreSame f g made source i →
    map f made ≡ map g source
all_same f g made source i h before = sym (ap (λ r. map f made ++ map g r) (drop_all i source h) ∙ append-nil (map f made)) ∙ before

-- Each of the elements passes where all do.
pub one_of : {X : Type 0} (test : X → Bool) (xs : List X) (i : ℕ) (x : X) → i < length xs → x ≡ get_or xs i x → list_all test xs ≡ true → test x ≡ true
one_of test xs i x h is all = by_test (test x) refl
  where
    by_test : (b : Bool) → test x ≡ b → test x ≡ true
    by_test true e = e
    by_test false e = absurd (cc (sym (list_all_at test xs i x h (ap test (sym is) ∙ e)) ∙ all))

-- What the elements mean that are left, and behind them what those mean that are made, is what all of them mean.
abbrev pub AreLeft : {A B C : Type 0} → (A → C) → (B → C) → List A → List B → List C → Type 0
AreLeft f g made left whole = map g left ++ reverse (map f made) ≡ whole

pub last_left : {A B C : Type 0} (f : A → C) (g : B → C) (made more : List A) (old new : List B) (x : B) (t : A) (whole : List C) →
    old ≡ new ++ x ∷ [] → more ≡ made ++ t ∷ [] → f t ≡ g x → AreLeft f g made old whole → AreLeft f g more new whole
last_left {C = C} f g made more old new x t whole p q is before =
    ap (λ r. map g new ++ reverse (map f r)) q
    ∙ ap (λ r. map g new ++ reverse r) (map-append f made (t ∷ []))
    ∙ ap (λ r. map g new ++ r) (reverse-append (map f made) (f t ∷ []))
    ∙ ap (λ (y : C). map g new ++ y ∷ reverse (map f made)) is
    ∙ sym (append_assoc (map g new) (g x ∷ []) (reverse (map f made)))
    ∙ ap (λ r. r ++ reverse (map f made)) (sym (map-append g new (x ∷ [])))
    ∙ ap (λ r. map g r ++ reverse (map f made)) (sym p)
    ∙ before

map_reverse : {A C : Type 0} (f : A → C) (xs : List A) → map f (reverse xs) ≡ reverse (map f xs)
map_reverse f [] = refl
map_reverse f (x ∷ xs) =
    ap (map f) (reverse-append (x ∷ []) xs) ∙ map-append f (reverse xs) (x ∷ []) ∙ ap (λ r. r ++ f x ∷ []) (map_reverse f xs)
    ∙ sym (reverse-append (f x ∷ []) (map f xs))

pub none_left : {A B C : Type 0} (f : A → C) (g : B → C) (made all : List A) (left : List B) (whole : List C) →
    left ≡ [] → all ≡ reverse made → AreLeft f g made left whole → map f all ≡ whole
none_left f g made all left whole p q before =
    ap (map f) q ∙ map_reverse f made ∙ sym (ap (λ r. map g r ++ reverse (map f made)) p) ∙ before
