-- The values before the cells, one after another.
use Rattle.std.proofs.Common.{◌≡◌, ◌<◌, ◌≤◌, ◌+◌, ◌-◌, ◌*◌, ◌^◌, ◌/◌, ◌%◌, ℕ, zero, suc, List, [], ◌∷◌, ◌++◌, ◌==◌, length, take, drop, map, get_or, if◌then◌else◌, Bool, arith, refl, ap, sym, ◌∙◌, append_assoc, drop-cons, add-one, length-append}
use Rattle.std.proofs.Math.ListN.{set}
use Rattle.std.proofs.Math.Nat.{pow-le-pow_right, pow-suc}
use Rattle.std.proofs.lemmas.List.{take_more_set}
use Rattle.lz_base.specs.Bits.{low_bits, number_of, word_bits, words_bits}
use Rattle.lz_base.specs.Ports.{FitPorts}
use Rattle.lz_base.specs.WordValue.{WordValue}
use Rattle.lz_base.specs.declared.name.Port.{Port}
use Rattle.lz_circuit.specs.Lines.{port_bits}
use Rattle.lz_circuit.specs.Values.{value_at}

-- no bits
pub low_none : (left value : ℕ) → left ≡ 0 → low_bits left value ≡ []
low_none zero value e = refl
low_none (suc left) value e = absurd (omega arith)

pub length_low : (width value : ℕ) → length (low_bits width value) ≡ width
length_low zero value = refl
length_low (suc width) value = ap suc (length_low width (value / 2))

-- one bit of a number more
pub low_on : (after left next : ℕ) (nets : List Bool) (value : ℕ) → left ≡ suc after → next < length nets
    → take (next + 1) (set nets next (value % 2 == 1)) ++ low_bits after (value / 2) ≡ take next nets ++ low_bits left value
low_on after left next nets value e lt =
    ap (λ l. l ++ low_bits after (value / 2)) (take_more_set nets next (value % 2 == 1) lt)
    ∙ append_assoc (take next nets) ((value % 2 == 1) ∷ []) (low_bits after (value / 2))
    ∙ ap (λ k. take next nets ++ low_bits k value) (sym e)

-- the bits of the words from an index on
pub words_on : (ws : List WordValue) (i : ℕ) (w : WordValue) → w ≡ get_or ws i w → i < length ws → words_bits (drop i ws) ≡ word_bits w ++ words_bits (drop (i + 1) ws)
words_on ws i w is lt = ap words_bits (drop-cons ws i w lt) ∙ rw (← is, add-one i) refl

-- how many bits these are
pub words_length : (ws : List WordValue) (i : ℕ) (w : WordValue) → w ≡ get_or ws i w → i < length ws
    → length (words_bits (drop i ws)) ≡ w.width + length (words_bits (drop (i + 1) ws))
words_length ws i w is lt =
    ap length (words_on ws i w is lt) ∙ length-append (word_bits w) (words_bits (drop (i + 1) ws)) ∙ ap (λ n. n + length (words_bits (drop (i + 1) ws))) (length_low w.width w.value)

-- words that fit ports have as many bits as these
pub bits_fit : (ps : List Port) (ws : List WordValue) → FitPorts ps ws → length (words_bits ws) ≡ port_bits ps
bits_fit [] [] h = refl
bits_fit [] (w ∷ ws) h = absurd h
bits_fit (p ∷ ps) [] h = absurd h
bits_fit (p ∷ ps) (w ∷ ws) h = omega (arith, length-append (low_bits w.width w.value) (words_bits ws), length_low w.width w.value, bits_fit ps ws h.2, h.0)

-- the two constants
pub two_constants : {X : Type 0} (a b : X) (nets : List X) → 2 ≤ length nets → take 2 (set (set nets 0 a) 1 b) ≡ a ∷ b ∷ []
two_constants a b [] h = absurd (omega arith)
two_constants a b (x ∷ []) h = absurd (omega arith)
two_constants a b (x ∷ y ∷ nets) h = refl

-- a number of fewer than 128 bits can be doubled
pub number_fits : (r k : ℕ) → r < 2 ^ k → k < 128 → r < 2 ^ 127
number_fits r k fits h =
    let two : 0 < 2 = omega arith in
    let le : k ≤ 127 = omega arith in
    omega (arith, pow-le-pow_right two le)

-- words that fit ports are as many
pub fit_length : (ps : List Port) (ws : List WordValue) → FitPorts ps ws → length ws ≡ length ps
fit_length [] [] h = refl
fit_length [] (w ∷ ws) h = absurd h
fit_length (p ∷ ps) [] h = absurd h
fit_length (p ∷ ps) (w ∷ ws) h = omega (arith, fit_length ps ws h.2)

-- one net more in front of those that make a number
pub number_on : (values : List Bool) (nets : List ℕ) (i n : ℕ) → 0 < i → i ≤ length nets → n ≡ number_of (map (value_at values) (drop i nets))
    → (if value_at values (get_or nets (i - 1) 0) then 1 else 0) + 2 * n ≡ number_of (map (value_at values) (drop (i - 1) nets))
number_on values nets zero n some le e = absurd (omega arith)
number_on values nets (suc i) n some le e =
    let before : suc i - 1 ≡ i = omega arith in
    let more : drop i nets ≡ get_or nets i 0 ∷ drop (suc i) nets = drop-cons nets i 0 (omega arith) in
    ap (λ k. (if value_at values (get_or nets k 0) then 1 else 0) + 2 * n) before
    ∙ ap (λ m. (if value_at values (get_or nets i 0) then 1 else 0) + 2 * m) e
    ∙ ap (λ l. number_of (map (value_at values) l)) (sym more)
    ∙ ap (λ k. number_of (map (value_at values) (drop k nets))) (sym before)

pub fits_on : (b n k more : ℕ) → b < 2 → n < 2 ^ k → more ≡ suc k → b + 2 * n < 2 ^ more
fits_on b n k more small fits e = rw e (omega (arith, pow-suc 2 k))
