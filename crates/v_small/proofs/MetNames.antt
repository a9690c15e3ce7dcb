-- Names met so far, and the next name.
use Rattle.std.proofs.Common.{◌≡◌, ◌+◌, ◌<◌, ℕ, suc, Bool, true, false, not, List, [], ◌∷◌, ◌++◌, length, take, drop, map, get_or, refl, sym, ap, subst, ◌∙◌, inl, inr, Bor, drop-cons}
use Rattle.std.proofs.lemmas.List.{map_push, map-append, take_more, take-append-drop}
use Rattle.lz_base.specs.Names.{IsNew, AreDistinct, IsAmong}

-- the name differs from one that stands behind others
new_apart : (name last : List ℕ) (names rest : List (List ℕ)) → IsNew name (names ++ last ∷ rest) → name ≡ last → ⊥
new_apart name last [] rest h e = h.0 e
new_apart name last (other ∷ names) rest h e = new_apart name last names rest h.1 e

new_push : (name last : List ℕ) (names : List (List ℕ)) → IsNew name names → (name ≡ last → ⊥) → IsNew name (names ++ last ∷ [])
new_push name last [] h apart = (apart, tt)
new_push name last (other ∷ names) h apart = (h.0, new_push name last names h.1 apart)

-- distinct names stay so with one more that is none of them
pub distinct_push : (names : List (List ℕ)) (last : List ℕ) → AreDistinct names → (IsAmong last names → ⊥) → AreDistinct (names ++ last ∷ [])
distinct_push [] last h apart = (tt, tt)
distinct_push (name ∷ names) last h apart = (new_push name last names h.0 (λ e. apart (inl (sym e))), distinct_push names last h.1 (λ among. apart (inr among)))

-- a name that stands among those before it is met twice
pub met_twice : (names rest : List (List ℕ)) (name : List ℕ) → IsAmong name names → AreDistinct (names ++ name ∷ rest) → ⊥
met_twice [] rest name h distinct = absurd h
met_twice (other ∷ names) rest name (inl e) distinct = new_apart other name names rest distinct.0 (sym e)
met_twice (other ∷ names) rest name (inr h) distinct = met_twice names rest name h distinct.1

-- the bytes of the names
abbrev pub texts : List (Bor (List ℕ)) → List (List ℕ)
texts = map (λ (n : Bor (List ℕ)). n.now)

-- the names up to a place, and the one there
pub one_more : (names : List (Bor (List ℕ))) (i : ℕ) (none : Bor (List ℕ)) → i < length names → texts (take (i + 1) names) ≡ texts (take i names) ++ (get_or names i none).now ∷ []
one_more names i none h = ap texts (take_more names i none h) ∙ map_push (λ (n : Bor (List ℕ)). n.now) (take i names) (get_or names i none)

-- names are not distinct where one of them is met again
pub not_distinct : (names : List (Bor (List ℕ))) (i : ℕ) (none : Bor (List ℕ)) → i < length names → IsAmong (get_or names i none).now (texts (take i names)) → AreDistinct (texts names) → ⊥
not_distinct names i none h met distinct =
    let whole : names ≡ take i names ++ get_or names i none ∷ drop (suc i) names = sym (take-append-drop i names) ∙ ap (λ (x : List (Bor (List ℕ))). take i names ++ x) (drop-cons names i none h) in
    let bytes : texts names ≡ texts (take i names) ++ (get_or names i none).now ∷ texts (drop (suc i) names) = ap texts whole ∙ map-append (λ (n : Bor (List ℕ)). n.now) (take i names) (get_or names i none ∷ drop (suc i) names) in
    met_twice (texts (take i names)) (texts (drop (suc i) names)) (get_or names i none).now met (subst AreDistinct bytes distinct)

-- what the answer says of whether the name was met
pub was_met : (added was : Bool) → added ≡ not was → added ≡ false → was ≡ true
was_met added true e f = refl
was_met added false e f = absurd (cc (e, f))

pub was_new : (added was : Bool) → added ≡ not was → added ≡ true → was ≡ true → ⊥
was_new added was e f g = absurd (cc (e, f, g))
