-- Lists, item by item.
use Rattle.std.proofs.Common.{◌≡◌, ◌<◌, ℕ, zero, suc, ◌+◌, List, [], ◌∷◌, ◌++◌, length, take, drop, get_or, slice_get, Some, arith, refl, ap, sym, ◌∙◌, add-one}
use Rattle.std.proofs.lemmas.Option.{slice_get_read}

-- an item that is there splits the list
pub drop_next : {X : Type 0} (xs : List X) (i : ℕ) (x : X) → slice_get xs i ≡ Some x → drop i xs ≡ x ∷ drop (i + 1) xs
drop_next [] i x is = cc
drop_next (y ∷ ys) zero x is = let e : y ≡ x = cc in rw e refl
drop_next (y ∷ ys) (suc i) x is = rw (add-one (suc i)) (drop_next ys i x is ∙ rw (add-one i) refl)

-- the items up to an item that is there
pub take_next : {X : Type 0} (xs : List X) (i : ℕ) (x : X) → slice_get xs i ≡ Some x → take (i + 1) xs ≡ take i xs ++ x ∷ []
take_next [] i x is = cc
take_next (y ∷ ys) zero x is = let e : y ≡ x = cc in rw e refl
take_next (y ∷ ys) (suc i) x is = rw (add-one (suc i)) (ap (λ l. y ∷ l) (sym (ap (λ k. take k ys) (add-one i)) ∙ take_next ys i x is))

-- an item that was read is there
pub item_there : {X : Type 0} (xs : List X) (i : ℕ) (x : X) → i < length xs → x ≡ get_or xs i x → slice_get xs i ≡ Some x
item_there xs i x within is = slice_get_read xs (length xs) i x refl within is

pub item_or : {X : Type 0} (xs : List X) (i : ℕ) (d : X) → i < length xs → slice_get xs i ≡ Some (get_or xs i d)
item_or [] i d within = absurd (omega (arith, within))
item_or (y ∷ ys) zero d within = refl
item_or (y ∷ ys) (suc i) d within = item_or ys i d (omega (arith, within))

pub get_or_is : {X : Type 0} (xs : List X) (i : ℕ) (x d : X) → slice_get xs i ≡ Some x → get_or xs i d ≡ x
get_or_is [] i x d e = cc
get_or_is (y ∷ ys) zero x d e = cc
get_or_is (y ∷ ys) (suc i) x d e = get_or_is ys i x d e
