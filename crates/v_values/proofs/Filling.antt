-- Words that are set one after another, and the number of bits.
use Rattle.std.proofs.Common.{◌≡◌, ◌≤◌, ◌<◌, ◌+◌, ◌*◌, ap, sym, ◌∙◌, arith, ℕ, append_assoc, length, get_or, take, drop, ◌++◌, List, [], ◌∷◌, Bool, true, false}
use Rattle.std.specs.Prelude.{◌^◌, if◌then◌else◌, replicate, reverse, slice_set}
use Rattle.std.proofs.lemmas.Nat.{pow-add}
use Rattle.std.proofs.Math.Nat.{pow-le-pow_right}
use Rattle.std.proofs.lemmas.List.{take_more, take_more_set, reverse-append, map-set, map-append, drop-map, replicate-append-replicate}
use Rattle.v_values.proofs.Writes.{next_at}
use Rattle.lz_base.specs.Bits.{number_of}
use Rattle.lz_base.specs.WordValue.{WordValue}
use Rattle.v_meaning.specs.Designs.{words_from}
use Rattle.v_values.specs.Seen.{values_of, widths_of}

twice : (i : ℕ) → 2 ^ (i + 1) ≡ 2 * 2 ^ i
twice i = pow-add 2 i 1 ∙ omega arith

pub has_room : (i n : ℕ) → i < 128 → n < 2 ^ i → n < 2 ^ 127
has_room i n h below = let grows : 2 ^ i ≤ 2 ^ 127 = pow-le-pow_right {n = 2} (omega arith) {i = i} {j = 127} (omega arith) in omega (arith, below, grows)

pub number_next : (bits : List Bool) (i n m : ℕ) (b d : Bool) → i < length bits → b ≡ get_or bits i d → n ≡ number_of (reverse (take i bits)) → m ≡ (if b then 1 else 0) + 2 * n →
    m ≡ number_of (reverse (take (i + 1) bits))
number_next bits i n m b d h bit is next =
    next ∙ (λ j. (if bit j then 1 else 0) + 2 * is j)
    ∙ sym (ap (λ (all : List Bool). number_of (reverse all)) (take_more bits i d h) ∙ ap number_of (reverse-append (take i bits) (get_or bits i d ∷ [])))

pub below_next : (i n m : ℕ) (b : Bool) → n < 2 ^ i → m ≡ (if b then 1 else 0) + 2 * n → m < 2 ^ (i + 1)
below_next i n m true below is = omega (arith, twice i, is)
below_next i n m false below is = omega (arith, twice i, is)

-- ---- words

pub values_replaced : (ws : List WordValue) (i n : ℕ) (w : WordValue) → w.value ≡ n → values_of (slice_set ws i w) ≡ slice_set (values_of ws) i n
values_replaced ws i n w is = map-set (λ (w : WordValue). w.value) ws i w ∙ ap (slice_set (values_of ws) i) is

values_next : (ws : List WordValue) (i : ℕ) (w : WordValue) → i < length ws → values_of (take (i + 1) (slice_set ws i w)) ≡ values_of (take i ws) ++ w.value ∷ []
values_next ws i w h = ap values_of (take_more_set ws i w h) ∙ map-append (λ (w : WordValue). w.value) (take i ws) (w ∷ [])

pub zeros_next : (ws : List WordValue) (i : ℕ) (w : WordValue) → i < length ws → w.value ≡ 0 → values_of (take i ws) ≡ replicate i 0 →
    values_of (take (i + 1) (slice_set ws i w)) ≡ replicate (i + 1) 0
zeros_next ws i w h is before = values_next ws i w h ∙ (λ j. before j ++ is j ∷ []) ∙ replicate-append-replicate i 1 0

pub width_left : (all ws : List WordValue) (i : ℕ) (d : WordValue) → i < length ws → widths_of ws ≡ widths_of all →
    drop i (widths_of all) ≡ (get_or ws i d).width ∷ drop (i + 1) (widths_of all)
width_left all ws i d h same =
    ap (drop i) (sym same) ∙ drop-map (λ (w : WordValue). w.width) i ws ∙ ap widths_of (next_at ws i d h)
    ∙ ap (λ (ns : List ℕ). (get_or ws i d).width ∷ ns) (sym (drop-map (λ (w : WordValue). w.width) (i + 1) ws) ∙ ap (drop (i + 1)) same)

pub words_next : (ws : List WordValue) (i : ℕ) (w : WordValue) (width wide : ℕ) (left more whole : List ℕ) (bits own rest : List Bool) → i < length ws →
    left ≡ wide ∷ more → width ≡ wide → w.value ≡ number_of (reverse own) → own ≡ take width bits → rest ≡ drop width bits →
    values_of (take i ws) ++ words_from left bits ≡ whole → values_of (take (i + 1) (slice_set ws i w)) ++ words_from more rest ≡ whole
words_next ws i w width wide left more whole bits own rest h is same value front back before =
    ap (λ (ns : List ℕ). ns ++ words_from more rest) (values_next ws i w h) ∙ append_assoc (values_of (take i ws)) (w.value ∷ []) (words_from more rest)
    ∙ (λ j. values_of (take i ws) ++ (value ∙ ap (λ (bs : List Bool). number_of (reverse bs)) (front ∙ ap (λ (n : ℕ). take n bits) same)) j ∷ words_from more ((back ∙ ap (λ (n : ℕ). drop n bits) same) j))
    ∙ sym (ap (λ (ns : List ℕ). values_of (take i ws) ++ words_from ns bits) is) ∙ before
