-- The pieces of a list, one after another.
use Rattle.std.proofs.Common.{◌≡◌, ◌+◌, ◌-◌, ◌++◌, List, ℕ, length, take, drop, arith, sym, ap, ◌∙◌, min, [], ◌<◌}
use Rattle.std.proofs.Math.Seq.{take-add}
use Rattle.std.proofs.lemmas.List.{take-append-drop}
use Rattle.std.proofs.lemmas.Grind.{common_steps}

-- a slice that goes up to the end is what is left
pub take_to_end : {X : Type 0} (s : ℕ) (xs : List X) → take (length xs - s) (drop s xs) ≡ drop s xs
take_to_end s xs = grind (arith, common_steps)

-- what went out, and then the front of what is left
pub take-next : {X : Type 0} (s n : ℕ) (xs : List X) → take s xs ++ take n (take (length xs - s) (drop s xs)) ≡ take (s + n) xs
take-next s n xs = ap (λ l. take s xs ++ take n l) (take_to_end s xs) ∙ sym (take-add s n xs)

-- what is left after two steps
drop-drop_add : {X : Type 0} (s n : ℕ) (xs : List X) → drop (s + n) xs ≡ drop n (drop s xs)
drop-drop_add s n xs = grind (arith, common_steps)

-- a front of what is left, and what is left then
pub left_after : {X : Type 0} (s n : ℕ) (xs : List X) → drop s xs ≡ take n (drop s xs) ++ drop (s + n) xs
left_after s n xs = sym (ap (λ l. take n (drop s xs) ++ l) (drop-drop_add s n xs) ∙ take-append-drop n (drop s xs))

-- a read of n bytes from byte s on takes them from the front of what is left, and none only at the end
pub read_takes : (s n : ℕ) (all left to : List ℕ)
    → left ≡ drop s all → n ≡ min (length left) (length to) → take n to ≡ take n left
    → (drop s all ≡ take n to ++ drop (s + n) all) × (n ≡ 0 → 0 < length to → drop (s + n) all ≡ [])
read_takes s n all left to is count copied = (
  left_after s n all ∙ ap (λ l. take n l ++ drop (s + n) all) (sym is) ∙ ap (λ l. l ++ drop (s + n) all) (sym copied),
  λ none some. grind (arith, common_steps),
)
