-- Lists, item by item.
use Rattle.std.proofs.Common.{◌≡◌, ℕ, zero, suc, ◌+◌, ◌<◌, ◌≤◌, List, ◌++◌, [], ◌∷◌, length, refl, take, drop, flat_map, slice_get, get_or, Some, arith, ap, sym, subst, ◌∙◌, append_assoc, append-nil, add-one}
use Rattle.std.proofs.lemmas.List.{length-append, take_more}
use Rattle.std.proofs.lemmas.List.Concat.{flat_map-append, flat_map-cons}
use Rattle.std.proofs.lemmas.Option.{slice_get_read}
use Rattle.lz_base.proofs.Lists.{drop_next, item_or, take_next}
use Rattle.lz_lines.specs.Fields.{AllUpTo, Each}

-- one line more
pub flat_more : {X : Type 0} (f : X → List ℕ) (xs : List X) (x : X) → flat_map f (xs ++ x ∷ []) ≡ flat_map f xs ++ f x
flat_more f xs x = flat_map-append f xs (x ∷ []) ∙ ap (λ l. flat_map f xs ++ l) (flat_map-cons f x [] ∙ append-nil (f x))

pub flat_length : {X : Type 0} (f : X → List ℕ) (x : X) (xs : List X) → length (flat_map f (x ∷ xs)) ≡ length (f x) + length (flat_map f xs)
flat_length f x xs = ap (λ (l : List ℕ). length l) (flat_map-cons f x xs) ∙ length-append (f x) (flat_map f xs)

-- the line of the item at an index comes next
pub flat_map_next : {X : Type 0} (f : X → List ℕ) (xs : List X) (i : ℕ) (x : X) → slice_get xs i ≡ Some x → flat_map f (drop i xs) ≡ f x ++ flat_map f (drop (i + 1) xs)
flat_map_next f xs i x is = ap (flat_map f) (drop_next xs i x is) ∙ flat_map-cons f x (drop (i + 1) xs)

-- one line went out of those that are left
pub goes_out : (old new line whole rest all : List ℕ) → new ≡ old ++ line → old ++ whole ≡ all → whole ≡ line ++ rest → new ++ rest ≡ all
goes_out old new line whole rest all e h s = ap (λ l. l ++ rest) e ∙ append_assoc old line rest ∙ ap (λ l. old ++ l) (sym s) ∙ h

-- one more has the property
pub each_more : {X : Type 0} (Has : X → Type 0) (xs : List X) (x : X) → Each Has xs → Has x → Each Has (xs ++ x ∷ [])
each_more Has [] x h one = (one, tt)
each_more Has (y ∷ ys) x h one = (h.0, each_more Has ys x h.1 one)

pub each_next : {X : Type 0} (Has : X → Type 0) (xs : List X) (i : ℕ) (x : X) → Each Has (take i xs) → slice_get xs i ≡ Some x → Has x → Each Has (take (i + 1) xs)
each_next Has xs i x h is one = subst (Each Has) (sym (take_next xs i x is)) (each_more Has (take i xs) x h one)

pub up_to_next : (high : ℕ) (ns : List ℕ) (i d : ℕ) → AllUpTo high (take i ns) → i < length ns → get_or ns i d ≤ high → AllUpTo high (take (i + 1) ns)
up_to_next high ns i d h within one = subst (AllUpTo high) (sym (take_more ns i d within)) (more (take i ns) h)
  where
    more : (ms : List ℕ) → AllUpTo high ms → AllUpTo high (ms ++ get_or ns i d ∷ [])
    more [] h = (one, tt)
    more (m ∷ ms) h = (h.0, more ms h.1)

pub each_at : {X : Type 0} (Has : X → Type 0) (xs : List X) (i : ℕ) (d : X) → Each Has (take i xs) → i < length xs → Has (get_or xs i d) → Each Has (take (i + 1) xs)
each_at Has xs i d h within one = each_next Has xs i (get_or xs i d) h (item_or xs i d within) one
