-- The streams in words of 64 bits.
use Rattle.std.proofs.Common.{◌≡◌, ◌<◌, ◌≤◌, ◌+◌, ◌*◌, ◌-◌, ◌/◌, ◌%◌, ◌^◌, ◌==◌, ◌&&◌, ℕ, zero, suc, List, [], ◌∷◌, ◌++◌, length, take, drop, map, get_or, min, Bool, true, false, if◌then◌else◌, arith, refl, ap, sym, ◌∙◌, append_assoc, append-nil, length-append, slice_get, Some}
use Rattle.std.specs.Int.{bit_at}
use Rattle.std.specs.Int.Bits.{bit_and, bit_xor}
use mathlib.Core.Bool.{xor}
use Rattle.std.proofs.Math.ListN.{set}
use Rattle.std.proofs.lemmas.List.{map-set, map-append, take-map, length-map, take_more_set, drop_all}
use Rattle.n_cells.specs.declared.netlist.Flop.{Flop}
use Rattle.std.proofs.lemmas.Nat.Bits.{bit_at_and, bit_at_xor, bit_at-lt, bit_at_ones, bit_at-zero}
use Rattle.std.proofs.lemmas.Bool.Decides.{nat_tests}
use Rattle.lz_base.specs.Bits.{number_of, low_bits, word_of, words_bits}
use Rattle.lz_base.specs.declared.name.Port.{Port}
use Rattle.lz_circuit.specs.Lines.{port_bits}
use Rattle.n_cells.specs.Netlist.{FillOutputs}
use Rattle.lz_circuit.specs.Values.{value_at}
use Rattle.n_sim.specs.Lanes.{lane, stream}
use Rattle.n_sim.specs.Steps.{joined}
use Rattle.lz_base.proofs.Lists.{drop_next}
use Rattle.n_sim.proofs.Edges.{moving, move_on}

two_xor : (x y : ℕ) → x < 2 → y < 2 → ((x + y) % 2 == 1) ≡ xor (x == 1) (y == 1)
unfolding xor
two_xor zero zero hx hy = refl
two_xor zero (suc zero) hx hy = refl
two_xor (suc zero) zero hx hy = refl
two_xor (suc zero) (suc zero) hx hy = refl
two_xor (suc (suc x)) y hx hy = absurd (omega arith)
two_xor zero (suc (suc y)) hx hy = absurd (omega arith)
two_xor (suc zero) (suc (suc y)) hx hy = absurd (omega arith)

two_and : (x y : ℕ) → x < 2 → y < 2 → (min x y == 1) ≡ (x == 1) && (y == 1)
two_and zero zero hx hy = refl
two_and zero (suc zero) hx hy = refl
two_and (suc zero) zero hx hy = refl
two_and (suc zero) (suc zero) hx hy = refl
two_and (suc (suc x)) y hx hy = absurd (omega arith)
two_and zero (suc (suc y)) hx hy = absurd (omega arith)
two_and (suc zero) (suc (suc y)) hx hy = absurd (omega arith)

-- the operations on words are those on the bits of each stream
pub lane_xor : (j a b : ℕ) → lane j (bit_xor a b) ≡ xor (lane j a) (lane j b)
lane_xor j a b = ap (λ x. x == 1) (bit_at_xor a b j) ∙ two_xor (bit_at a j) (bit_at b j) (bit_at-lt a j) (bit_at-lt b j)

pub lane_and : (j a b : ℕ) → lane j (bit_and a b) ≡ lane j a && lane j b
lane_and j a b = ap (λ x. x == 1) (bit_at_and a b j) ∙ two_and (bit_at a j) (bit_at b j) (bit_at-lt a j) (bit_at-lt b j)

pub lane_ones : (j : ℕ) → j < 64 → lane j (2 ^ 64 - 1) ≡ true
lane_ones j h = ap (λ x. x == 1) (bit_at_ones 64 j h)

pub lane_zero : (j : ℕ) → lane j 0 ≡ false
lane_zero j = ap (λ x. x == 1) (bit_at-zero j)

lane_bit : (j : ℕ) (bit : Bool) → j < 64 → lane j (if bit then 2 ^ 64 - 1 else 0) ≡ bit
lane_bit j false h = lane_zero j
lane_bit j true h = lane_ones j h

pub chosen : (by low high : Bool) → xor low (xor low high && by) ≡ (if by then high else low)
unfolding xor
chosen false false false = refl
chosen false false true = refl
chosen false true false = refl
chosen false true true = refl
chosen true false false = refl
chosen true false true = refl
chosen true true false = refl
chosen true true true = refl

pub lane_choose : (j by low high : ℕ) → lane j (bit_xor low (bit_and (bit_xor low high) by)) ≡ (if lane j by then lane j high else lane j low)
lane_choose j by low high =
    lane_xor j low (bit_and (bit_xor low high) by)
    ∙ ap (xor (lane j low)) (lane_and j (bit_xor low high) by ∙ ap (λ x. x && lane j by) (lane_xor j low high))
    ∙ chosen (lane j by) (lane j low) (lane j high)

-- the value of a net in a stream
pub lane_at : (j : ℕ) (words : List ℕ) (n : ℕ) → lane j (get_or words n 0) ≡ value_at (stream j words) n
lane_at j [] n = lane_zero j
lane_at j (w ∷ words) zero = refl
lane_at j (w ∷ words) (suc n) = lane_at j words n

pub lanes_at : (j : ℕ) (words nets : List ℕ) → stream j (map (λ n. get_or words n 0) nets) ≡ map (value_at (stream j words)) nets
lanes_at j words [] = refl
lanes_at j words (n ∷ nets) = ap (λ b. b ∷ stream j (map (λ k. get_or words k 0) nets)) (lane_at j words n) ∙ ap (λ l. value_at (stream j words) n ∷ l) (lanes_at j words nets)

-- a word that is written
pub stream_set : (j : ℕ) (words : List ℕ) (i w : ℕ) → stream j (set words i w) ≡ set (stream j words) i (lane j w)
stream_set j words i w = map-set (lane j) words i w

pub stream_length : (j : ℕ) (words : List ℕ) → length (stream j words) ≡ length words
stream_length j words = length-map words (lane j)

pub stream_take : (j n : ℕ) (words : List ℕ) → take n (stream j words) ≡ stream j (take n words)
stream_take j n words = take-map (lane j) n words

-- the bits of the first nets
pub stream_front : (j : ℕ) (input state : List ℕ) → j < 64 → stream j (0 ∷ (2 ^ 64 - 1) ∷ input ++ state) ≡ false ∷ true ∷ stream j input ++ stream j state
stream_front j input state h =
    ap (λ b. b ∷ lane j (2 ^ 64 - 1) ∷ stream j (input ++ state)) (lane_zero j)
    ∙ ap (λ b. false ∷ b ∷ stream j (input ++ state)) (lane_ones j h)
    ∙ ap (λ l. false ∷ true ∷ l) (map-append (lane j) input state)

pub joined_next : (ns : List ℕ) (more : List (List ℕ)) → joined (ns ∷ more) ≡ ns ++ joined more
unfolding joined
joined_next ns more = refl

pub joined_at : (nets : List (List ℕ)) (i : ℕ) (ns : List ℕ) → slice_get nets i ≡ Some ns → joined (drop i nets) ≡ ns ++ joined (drop (i + 1) nets)
joined_at nets i ns is = ap joined (drop_next nets i ns is) ∙ joined_next ns (drop (i + 1) nets)

-- one output more
pub show_on : {X : Type 0} (f : ℕ → X) (front after : List X) (nets : List (List ℕ)) (i : ℕ) (ns : List ℕ) → slice_get nets i ≡ Some ns → after ≡ front ++ map f ns
    → front ++ map f (joined (drop i nets)) ≡ map f (joined nets) → after ++ map f (joined (drop (i + 1) nets)) ≡ map f (joined nets)
show_on f front after nets i ns is e h =
    ap (λ l. l ++ map f (joined (drop (i + 1) nets))) e
    ∙ append_assoc front (map f ns) (map f (joined (drop (i + 1) nets)))
    ∙ ap (λ l. front ++ l) (sym (map-append f ns (joined (drop (i + 1) nets))) ∙ ap (map f) (sym (joined_at nets i ns is)))
    ∙ h

-- all outputs
pub show_all : {X : Type 0} (f : ℕ → X) (front : List X) (nets : List (List ℕ)) (i : ℕ) → length nets ≤ i → front ++ map f (joined (drop i nets)) ≡ map f (joined nets) → front ≡ map f (joined nets)
unfolding joined
show_all f front nets i past h =
    let none = drop_all i nets past in
    let all = rw none at h in
    sym (append-nil front) ∙ all

-- the outputs have as many bits as nets
pub joined_length : (ps : List Port) (nets : List (List ℕ)) → FillOutputs ps nets → length (joined nets) ≡ port_bits ps
unfolding joined
joined_length [] [] f = refl
joined_length [] (ns ∷ more) f = absurd f
joined_length (p ∷ ps) [] f = absurd f
joined_length (p ∷ ps) (ns ∷ more) f = omega (arith, length-append ns (joined more), joined_length ps more f.1, f.0)

odd_bit : (b : Bool) (n : ℕ) → (((if b then 1 else 0) + 2 * n) % 2 == 1) ≡ b
odd_bit false n = grind (arith, nat_tests)
odd_bit true n = grind (arith, nat_tests)

half_bit : (b : Bool) (n : ℕ) → ((if b then 1 else 0) + 2 * n) / 2 ≡ n
half_bit false n = omega arith
half_bit true n = omega arith

low_of : (bits : List Bool) → low_bits (length bits) (number_of bits) ≡ bits
low_of [] = refl
low_of (b ∷ bits) =
    ap (λ x. x ∷ low_bits (length bits) (number_of (b ∷ bits) / 2)) (odd_bit b (number_of bits))
    ∙ ap (λ k. b ∷ low_bits (length bits) k) (half_bit b (number_of bits))
    ∙ ap (λ l. b ∷ l) (low_of bits)

pub shown_bits : (values : List Bool) (nets : List (List ℕ)) → words_bits (map (λ ns. word_of (map (value_at values) ns)) nets) ≡ map (value_at values) (joined nets)
unfolding joined
shown_bits values [] = refl
shown_bits values (ns ∷ more) =
    ap (λ l. l ++ words_bits (map (λ ms. word_of (map (value_at values) ms)) more)) (low_of (map (value_at values) ns))
    ∙ ap (λ l. map (value_at values) ns ++ l) (shown_bits values more)
    ∙ sym (map-append (value_at values) ns (joined more))

-- one word more
pub put_one : (j : ℕ) (words : List ℕ) (next w : ℕ) (b : Bool) → next < length words → lane j w ≡ b
    → take (next + 1) (stream j (set words next w)) ≡ take next (stream j words) ++ b ∷ []
put_one j words next w b lt e =
    let here : next < length (stream j words) = omega (arith, stream_length j words) in
    ap (take (next + 1)) (stream_set j words next w) ∙ take_more_set (stream j words) next (lane j w) here ∙ ap (λ x. take next (stream j words) ++ x ∷ []) e

-- one flip-flop moves in a stream
pub lane_moves : (j : ℕ) (nets state initial : List ℕ) (fs : List Flop) (i : ℕ) (d : Flop) (w : ℕ) → length initial ≡ length fs → i < length fs
    → stream j state ≡ moving (stream j nets) fs (stream j initial) i
    → lane j w ≡ (if lane j (get_or nets (get_or fs i d).enable 0) then lane j (get_or nets (get_or fs i d).net 0) else lane j (get_or state i 0))
    → stream j (set state i w) ≡ moving (stream j nets) fs (stream j initial) (i + 1)
lane_moves j nets state initial fs i d w many lt inv e =
    let f = get_or fs i d in
    let bits : length (stream j initial) ≡ length fs = stream_length j initial ∙ many in
    let held : lane j w ≡ (if value_at (stream j nets) f.enable then value_at (stream j nets) f.net else get_or (moving (stream j nets) fs (stream j initial) i) i false) =
    e ∙ rw (lane_at j nets f.enable, lane_at j nets f.net, lane_at j state i, inv) refl in
    stream_set j state i w
    ∙ ap (λ l. set l i (lane j w)) inv
    ∙ ap (set (moving (stream j nets) fs (stream j initial) i) i) held
    ∙ move_on (stream j nets) fs (stream j initial) i d bits lt

-- the first bits in a stream
pub first_lanes : (j : ℕ) (fs : List Flop) → j < 64 → stream j (map (λ f. if f.first then 2 ^ 64 - 1 else 0) fs) ≡ map (λ f. f.first) fs
first_lanes j [] h = refl
first_lanes j (f ∷ fs) h = ap (λ b. b ∷ stream j (map (λ g. if g.first then 2 ^ 64 - 1 else 0) fs)) (lane_bit j f.first h) ∙ ap (λ l. f.first ∷ l) (first_lanes j fs h)
