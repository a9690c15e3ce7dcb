-- Streams side by side: the bits that one of them has.
use Rattle.std.proofs.Common.{◌≡◌, ◌≢◌, ◌<◌, ◌≤◌, ◌+◌, ◌-◌, ◌*◌, ◌^◌, ◌/◌, ◌%◌, ℕ, zero, suc, List, [], ◌∷◌, ◌++◌, ◌==◌, length, take, drop, get_or, map, Bool, true, false, if◌then◌else◌, arith, refl, ap, sym, ◌∙◌, append_assoc, append-nil, drop-cons, add-one, length-append}
use Rattle.std.proofs.Math.ListN.{set}
use Rattle.std.proofs.Math.Nat.{pow-le-pow_right}
use Rattle.std.proofs.Math.Seq.{map-set_same}
use Rattle.std.proofs.lemmas.List.{take_more_set, map-set, length-map, take_all, drop_all}
use Rattle.std.proofs.lemmas.Bool.Decides.{nat_tests}
use Rattle.lz_base.specs.Bits.{bit_of, low_bits, word_bits, words_bits, number_of, word_of}
use Rattle.lz_base.specs.WordValue.{WordValue}
use Rattle.lz_base.specs.declared.name.Port.{Port}
use Rattle.lz_circuit.specs.Lines.{HaveWidths, port_bits}
use Rattle.n_sim.specs.Lanes.{lane, stream}
use Rattle.s_flow.specs.SideBySide.{words_at}

pub length_low : (width value : ℕ) → length (low_bits width value) ≡ width
length_low zero value = refl
length_low (suc width) value = ap suc (length_low width (value / 2))

-- no bits
pub low_none : (left value : ℕ) → left ≡ 0 → low_bits left value ≡ []
low_none zero value e = refl
low_none (suc left) value e = absurd (omega arith)

-- one bit of a number more
low_on : (after left next : ℕ) (bits : List Bool) (value : ℕ) → left ≡ suc after → next < length bits
    → take (next + 1) (set bits next (value % 2 == 1)) ++ low_bits after (value / 2) ≡ take next bits ++ low_bits left value
low_on after left next bits value e lt =
    ap (λ l. l ++ low_bits after (value / 2)) (take_more_set bits next (value % 2 == 1) lt)
    ∙ append_assoc (take next bits) ((value % 2 == 1) ∷ []) (low_bits after (value / 2))
    ∙ ap (λ k. take next bits ++ low_bits k value) (sym e)

-- the stream that is written has one bit of the number more
pub bit_put : (j after left next new : ℕ) (lanes : List ℕ) (value : ℕ) → left ≡ suc after → next < length lanes → (bit_of new j == 1) ≡ (value % 2 == 1)
    → take (next + 1) (stream j (set lanes next new)) ++ low_bits after (value / 2) ≡ take next (stream j lanes) ++ low_bits left value
bit_put j after left next new lanes value e lt is =
    ap (λ l. take (next + 1) l ++ low_bits after (value / 2)) (map-set (lane j) lanes next new ∙ ap (set (stream j lanes) next) is)
    ∙ low_on after left next (stream j lanes) value e (omega (arith, length-map lanes (lane j)))

-- and each other stream the bits that it had
pub bit_kept : (other next new : ℕ) (lanes : List ℕ) → bit_of new other ≡ bit_of (get_or lanes next 0) other → stream other (set lanes next new) ≡ stream other lanes
bit_kept other next new lanes is = map-set_same (lane other) lanes next new 0 (ap (λ b. b == 1) is)

-- the bits of the words from an index on
pub words_on : (ws : List WordValue) (i : ℕ) (w : WordValue) → w ≡ get_or ws i w → i < length ws → words_bits (drop i ws) ≡ word_bits w ++ words_bits (drop (i + 1) ws)
words_on ws i w is lt = ap words_bits (drop-cons ws i w lt) ∙ rw (← is, add-one i) refl

-- how many bits these are
pub words_length : (ws : List WordValue) (i : ℕ) (w : WordValue) → w ≡ get_or ws i w → i < length ws
    → length (words_bits (drop i ws)) ≡ w.width + length (words_bits (drop (i + 1) ws))
words_length ws i w is lt =
    ap length (words_on ws i w is lt) ∙ length-append (word_bits w) (words_bits (drop (i + 1) ws)) ∙ ap (λ n. n + length (words_bits (drop (i + 1) ws))) (length_low w.width w.value)

-- one word more
pub word_put : (ws : List WordValue) (i : ℕ) (w : WordValue) (old new all : List Bool) → w ≡ get_or ws i w → i < length ws → new ≡ old ++ word_bits w
    → old ++ words_bits (drop i ws) ≡ all → new ++ words_bits (drop (i + 1) ws) ≡ all
word_put ws i w old new all is lt put before =
    ap (λ l. l ++ words_bits (drop (i + 1) ws)) put ∙ append_assoc old (word_bits w) (words_bits (drop (i + 1) ws)) ∙ ap (λ l. old ++ l) (sym (words_on ws i w is lt)) ∙ before

-- all words are put
pub words_put : (ws : List WordValue) (i next : ℕ) (bits : List Bool) → length ws ≤ i → next + length (words_bits (drop i ws)) ≡ length bits
    → take next bits ++ words_bits (drop i ws) ≡ words_bits ws → bits ≡ words_bits ws
words_put ws i next bits past room put =
    let none = drop_all i ws past in
    let long = rw none at room in
    let all = rw (none, append-nil) at put in
    sym (take_all next bits (omega (arith, long))) ∙ all

-- a number of fewer than 128 bits can be doubled
pub number_fits : (r k : ℕ) → r < 2 ^ k → k < 128 → r < 2 ^ 127
number_fits r k fits h =
    let two : 0 < 2 = omega arith in
    let le : k ≤ 127 = omega arith in
    omega (arith, pow-le-pow_right two le)

-- the number of a bit
pub bit_number : (n : ℕ) → n % 2 ≡ (if n % 2 == 1 then 1 else 0)
bit_number n = grind (arith, nat_tests)

-- one bit more at the front of a number
pub number_on : (j i : ℕ) (lanes : List ℕ) (number : ℕ) → 0 < i → i ≤ length lanes → number ≡ number_of (stream j (drop i lanes))
    → bit_of (get_or lanes (i - 1) 0) j + 2 * number ≡ number_of (stream j (drop (i - 1) lanes))
number_on j i lanes number some within is =
    let lt : i - 1 < length lanes = omega arith in
    let next : suc (i - 1) ≡ i = omega arith in
    let parts : drop (i - 1) lanes ≡ get_or lanes (i - 1) 0 ∷ drop i lanes = drop-cons lanes (i - 1) 0 lt ∙ ap (λ k. get_or lanes (i - 1) 0 ∷ drop k lanes) next in
    rw parts (ap (λ b. b + 2 * number) (bit_number (get_or lanes (i - 1) 0 / 2 ^ j))
    ∙ ap (λ m. (if bit_of (get_or lanes (i - 1) 0) j == 1 then 1 else 0) + 2 * m) is)

-- and it is below the next power
pub fits_on : (k more bit number : ℕ) → more ≡ suc k → bit < 2 → number < 2 ^ k → bit + 2 * number < 2 ^ more
fits_on k more bit number e small fits = rw e (omega arith)
