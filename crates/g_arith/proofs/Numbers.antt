-- The numbers of words: as they grow by a bit, and as networks grow.
use Rattle.std.proofs.Common.{◌≡◌, ◌≤◌, ◌<◌, ◌+◌, ◌*◌, ◌^◌, ◌/◌, ℕ, zero, suc, ◌%◌, List, [], ◌∷◌, ◌++◌, length, take, map, Bool, true, false, subst, refl, sym, ap, ◌∙◌, arith, add-one}
use Rattle.std.proofs.Math.Nat.{pow-succ', mod-eq_of_lt, add-mul-mod_self_left}
use Rattle.std.proofs.lemmas.List.{map-append, take_more, length-map, length-take, length-take-le, get_or-take}
use Rattle.std.specs.Prelude.{slice_index}
use Rattle.lz_base.specs.Bits.{number_of}
use Rattle.g_net.specs.Network.{NetworkValue, LiteralsBelow, node_count, source_bits}
use Rattle.g_net.specs.Run.{literal_value}
use Rattle.g_net.specs.Walk.{values_of}
use Rattle.g_build.specs.Building.{Builds}
use Rattle.g_arith.specs.Operators.{bit}
use Rattle.g_arith.specs.Words.{number_in, word_value}

number_push : (bits : List Bool) (top : Bool) → number_of (bits ++ top ∷ []) ≡ number_of bits + 2 ^ length bits * bit top
number_push [] top = omega arith
number_push (b ∷ bits) top =
    let double : 2 ^ suc (length bits) ≡ 2 * 2 ^ length bits = pow-succ' 2 (length bits) in
    let same : 2 ^ suc (length bits) * bit top ≡ 2 * (2 ^ length bits * bit top) = rw double (omega arith) in
    omega (arith, number_push bits top, same)

-- one literal more
pub word_push : (values : List Bool) (word : List ℕ) (literal : ℕ) → word_value values (word ++ literal ∷ []) ≡ word_value values word + 2 ^ length word * bit (literal_value values literal)
word_push values word literal =
    ap number_of (map-append (literal_value values) word (literal ∷ []))
    ∙ number_push (map (literal_value values) word) (literal_value values literal)
    ∙ ap (λ k. word_value values word + 2 ^ k * bit (literal_value values literal)) (length-map word (literal_value values))

pub word_take : (values : List Bool) (word : List ℕ) (i : ℕ) → i < length word
    → word_value values (take (i + 1) word) ≡ word_value values (take i word) + 2 ^ i * bit (literal_value values (slice_index word i))
word_take values word i within =
    ap (word_value values) (take_more word i 0 within)
    ∙ word_push values (take i word) (slice_index word i)
    ∙ ap (λ k. word_value values (take i word) + 2 ^ k * bit (literal_value values (slice_index word i))) (length-take-le i word (omega arith))

same_words : (v w : List Bool) (word : List ℕ) → ((k : ℕ) → k < length word → literal_value w (slice_index word k) ≡ literal_value v (slice_index word k)) → word_value w word ≡ word_value v word
same_words v w [] h = refl
same_words v w (l ∷ word) h =
    let first : literal_value w l ≡ literal_value v l = h zero (omega arith) in
    let rest : word_value w word ≡ word_value v word = same_words v w word (λ k within. h (suc k) (omega arith)) in
    ap (λ b. bit b + 2 * word_value w word) first ∙ ap (λ n. bit (literal_value v l) + 2 * n) rest

-- a word whose literals were there has the number that it had
pub number_keeps : (a b : NetworkValue) (word : List ℕ) (sources : List Bool) → Builds a b → length sources ≡ source_bits a → LiteralsBelow (node_count a) word
    → number_in b sources word ≡ number_in a sources word
number_keeps a b word sources h many there = same_words (values_of a sources) (values_of b sources) word (λ k within. h.keeps sources (slice_index word k) many (there k within))

pub two_more : (n : ℕ) → 2 ^ (n + 1) ≡ 2 * 2 ^ n
two_more n = rw (add-one n) (pow-succ' 2 n)

-- the literals of a word and one more are there
pub below_push : (count : ℕ) (word : List ℕ) (literal : ℕ) → LiteralsBelow count word → literal / 2 < count → (k : ℕ) → k < length (word ++ literal ∷ []) → slice_index (word ++ literal ∷ []) k / 2 < count
below_push count [] literal h there zero within = there
below_push count [] literal h there (suc k) within = absurd (omega arith)
below_push count (l ∷ word) literal h there zero within = h zero (omega arith)
below_push count (l ∷ word) literal h there (suc k) within = below_push count word literal (λ j less. h (suc j) (omega arith)) there k (omega arith)

pub bit_small : (b : Bool) → bit b ≤ 1
bit_small true = omega arith
bit_small false = omega arith

number_below : (bits : List Bool) → number_of bits < 2 ^ length bits
number_below [] = omega arith
number_below (b ∷ bits) =
    let double : 2 ^ suc (length bits) ≡ 2 * 2 ^ length bits = pow-succ' 2 (length bits) in
    omega (arith, number_below bits, bit_small b, double)

pub word_below : (values : List Bool) (word : List ℕ) (width : ℕ) → length word ≡ width → word_value values word < 2 ^ width
word_below values word width long =
    let wide : length (map (literal_value values) word) ≡ width = length-map word (literal_value values) ∙ long in
    subst (λ k. word_value values word < 2 ^ k) wide (number_below (map (literal_value values) word))

-- the rest of a division, where the quotient is known
pub rest_of : (n p q total : ℕ) → n + p * q ≡ total → n < p → n ≡ total % p
rest_of n p q total is below = sym (mod-eq_of_lt below) ∙ sym (add-mul-mod_self_left n p q) ∙ ap (λ t. t % p) is

pub below_cons : (count literal : ℕ) (word : List ℕ) → literal / 2 < count → LiteralsBelow count word → (k : ℕ) → k < length (literal ∷ word) → slice_index (literal ∷ word) k / 2 < count
below_cons count literal word first rest zero within = first
below_cons count literal word first rest (suc k) within = rest k (omega arith)

-- the literals of a word, and the last of them, are there
pub below_split : (count : ℕ) (word : List ℕ) (literal : ℕ) → LiteralsBelow count (word ++ literal ∷ []) → LiteralsBelow count word × (literal / 2 < count)
below_split count [] literal h = (λ k within. absurd (omega arith), h zero (omega arith))
below_split count (l ∷ word) literal h =
    let rest = below_split count word literal (λ k within. h (suc k) (omega arith)) in
    (below_cons count l word (h zero (omega arith)) rest.0, rest.1)

-- the low literals of a word are there
pub take_below : (count k : ℕ) (word : List ℕ) → LiteralsBelow count word → (i : ℕ) → i < length (take k word) → slice_index (take k word) i / 2 < count
take_below count k word h i within =
    let low : i < k = omega (arith, length-take k word) in
    let there : i < length word = omega (arith, length-take k word) in
    subst (λ n. n / 2 < count) (sym (get_or-take k word i 0 low)) (h i there)
