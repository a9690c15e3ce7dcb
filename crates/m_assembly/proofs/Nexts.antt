-- Lists from an index on.
use Rattle.std.proofs.Common.{◌≡◌, ◌<◌, ◌-◌, ℕ, zero, suc, ◌+◌, List, [], ◌∷◌, ◌++◌, drop, map, slice_get, Option, None, Some, append_assoc, refl, ap, sym, ◌∙◌, add-one, arith}
use Rattle.std.specs.Option.{option_map}
use Rattle.lz_base.proofs.Lists.{drop_next}
use Rattle.m_valid.specs.Assembly.{numbers}

sub_one : (count : ℕ) → suc count - 1 ≡ count
sub_one count = omega arith

-- the first of so many numbers, and the others
pub numbers_next : (from count : ℕ) → 0 < count → numbers from count ≡ from ∷ numbers (from + 1) (count - 1)
numbers_next from zero some = absurd (omega arith)
numbers_next from (suc count) some = ap (λ k. from ∷ numbers (from + 1) k) (sym (sub_one count))

-- one number more
pub numbers_more : (made more : List ℕ) (number end : ℕ) → number < end → more ≡ made ++ number ∷ [] → more ++ numbers (number + 1) (end - (number + 1)) ≡ made ++ numbers number (end - number)
numbers_more made more number end below e =
    let rest : end - number - 1 ≡ end - (number + 1) = omega (arith, below) in
    ap (λ l. l ++ numbers (number + 1) (end - (number + 1))) e ∙ append_assoc made (number ∷ []) (numbers (number + 1) (end - (number + 1)))
    ∙ ap (λ k. made ++ number ∷ numbers (number + 1) k) (sym rest) ∙ ap (λ l. made ++ l) (sym (numbers_next number (end - number) (omega (arith, below))))

-- an item of which something was read
pub record IsRead {X Y : Type 0} (f : X → Y) (xs : List X) (i : ℕ) (y : Y) : Type 0 where
  pub item : X
  pub rest : drop i xs ≡ item ∷ drop (i + 1) xs
  pub read : f item ≡ y

pub item_read : {X Y : Type 0} (f : X → Y) (xs : List X) (i : ℕ) (y : Y) → option_map f (slice_get xs i) ≡ Some y → IsRead f xs i y
item_read {X = X} f xs i y e = by (slice_get xs i) refl e
  where
    by : (o : Option X) → slice_get xs i ≡ o → option_map f o ≡ Some y → IsRead f xs i y
    by None is e = absurd (cc)
    by (Some x) is e = record { item = x; rest = drop_next xs i x is; read = cc }

-- an item's reading is made
pub reading_more : {X Y : Type 0} (f : X → Y) (xs : List X) (i : ℕ) (y : Y) (made more all : List Y) → option_map f (slice_get xs i) ≡ Some y → more ≡ made ++ y ∷ [] → made ++ map f (drop i xs) ≡ all → more ++ map f (drop (i + 1) xs) ≡ all
reading_more f xs i y made more all e m h =
    let r = item_read f xs i y e in
    ap (λ l. l ++ map f (drop (i + 1) xs)) m ∙ append_assoc made (y ∷ []) (map f (drop (i + 1) xs)) ∙ ap (λ z. made ++ z ∷ map f (drop (i + 1) xs)) (sym r.read) ∙ ap (λ l. made ++ l) (sym (ap (map f) r.rest)) ∙ h
