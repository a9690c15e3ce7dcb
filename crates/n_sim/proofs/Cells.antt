-- A cell's value from those of the nets that it reads.
use Rattle.std.proofs.Common.{◌≡◌, ◌<◌, ◌≤◌, ◌^◌, ◌+◌, ◌*◌, ℕ, zero, suc, List, [], ◌∷◌, length, take, drop, get_or, Bool, true, false, if◌then◌else◌, arith, refl, ap, ◌∙◌, add-one}
use Rattle.n_cells.specs.Netlist.{AllBelow}
use Rattle.lz_circuit.specs.Values.{value_at}
use Rattle.n_cells.specs.Run.{index_of}
use Rattle.n_sim.specs.Wires.{AreZero}
use Rattle.std.proofs.Math.ListN.{set}
use Rattle.std.proofs.Math.Nat.{pow-suc, pow-le-pow_right}
use mathlib.Core.Bool.{not, beq, xor}

-- the exclusive or of three bits, by two comparisons
pub three_sum : (a b c : Bool) → not (beq a (not (beq b c))) ≡ xor a (xor b c)
unfolding xor
three_sum false false false = refl
three_sum false false true = refl
three_sum false true false = refl
three_sum false true true = refl
three_sum true false false = refl
three_sum true false true = refl
three_sum true true false = refl
three_sum true true true = refl

-- nets that are there stay so
pub below_wider : (low high : ℕ) (nets : List ℕ) → low ≤ high → AllBelow low nets → AllBelow high nets
below_wider low high [] le h = tt
below_wider low high (n ∷ nets) le h = (omega (arith, h.0), below_wider low high nets le h.1)

-- one of the nets
pub below_at : (high i : ℕ) (nets : List ℕ) (d : ℕ) → AllBelow high nets → i < length nets → get_or nets i d < high
below_at high i [] d h lt = absurd (omega arith)
below_at high zero (n ∷ nets) d h lt = h.0
below_at high (suc i) (n ∷ nets) d h lt = below_at high i nets d h.1 (omega arith)

zeros_below : (high : ℕ) (nets : List ℕ) → 0 < high → AreZero nets → AllBelow high nets
zeros_below high [] some z = tt
zeros_below high (n ∷ nets) some z = (omega (arith, z.0), zeros_below high nets some z.1)

-- where the leaves are there, so are the nets behind them
pub filled_below : (high count : ℕ) (nets : List ℕ) → 0 < high → AreZero (drop count nets) → AllBelow high (take count nets) → AllBelow high nets
filled_below high count [] some z below = tt
filled_below high zero (n ∷ nets) some z below = zeros_below high (n ∷ nets) some z
filled_below high (suc count) (n ∷ nets) some z below = (below.0, filled_below high count nets some z below.1)

index_zero : (values : List Bool) (nets : List ℕ) → value_at values 0 ≡ false → AreZero nets → index_of values nets ≡ 0
index_zero values [] at z = refl
index_zero values (n ∷ nets) at z =
    ap (λ k. (if value_at values k then 1 else 0) + 2 * index_of values nets) z.0
    ∙ ap (λ b. (if b then 1 else 0) + 2 * index_of values nets) at
    ∙ omega (arith, index_zero values nets at z.1)

-- the nets behind the leaves add nothing to the number
pub index_filled : (values : List Bool) (count : ℕ) (nets : List ℕ) → value_at values 0 ≡ false → AreZero (drop count nets) → index_of values nets ≡ index_of values (take count nets)
index_filled values zero [] at z = refl
index_filled values (suc count) [] at z = refl
index_filled values zero (n ∷ nets) at z = index_zero values (n ∷ nets) at z
index_filled values (suc count) (n ∷ nets) at z = ap (λ i. (if value_at values n then 1 else 0) + 2 * i) (index_filled values count nets at z)

bit_more : (b : Bool) (i k : ℕ) → i < 2 ^ k → (if b then 1 else 0) + 2 * i < 2 ^ suc k
bit_more false i k h = omega (arith, pow-suc 2 k)
bit_more true i k h = omega (arith, pow-suc 2 k)

-- the number that so many leaves make is small
index_small : (values : List Bool) (leaves : List ℕ) → index_of values leaves < 2 ^ length leaves
index_small values [] = omega arith
index_small values (leaf ∷ leaves) = bit_more (value_at values leaf) (index_of values leaves) (length leaves) (index_small values leaves)

-- a table of at most six leaves has at most 64 bits
pub index_fits : (values : List Bool) (leaves : List ℕ) → length leaves ≤ 6 → index_of values leaves < 64
index_fits values leaves few =
    let two : 0 < 2 = omega arith in
    omega (arith, index_small values leaves, pow-le-pow_right {n = 2} two few)

-- one more net in the front
pub zeros_next : (nets : List ℕ) (i v : ℕ) → AreZero (drop i nets) → AreZero (drop (i + 1) (set nets i v))
zeros_next [] i v z = rw (add-one i) tt
zeros_next (n ∷ nets) zero v z = z.1
zeros_next (n ∷ nets) (suc i) v z = rw (add-one (suc i)) (rw (add-one i) at (zeros_next nets i v z))
