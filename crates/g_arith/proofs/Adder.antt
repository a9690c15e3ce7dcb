-- Sums of words, bit by bit.
use Rattle.std.proofs.Common.{◌≡◌, ◌<◌, ◌+◌, ◌*◌, ◌-◌, ◌^◌, ◌/◌, ◌%◌, ℕ, List, [], ◌∷◌, ◌++◌, length, take, Bool, true, false, refl, sym, subst, ap, ◌∙◌, arith, length-append}
use Rattle.std.specs.Prelude.{slice_index}
use Rattle.std.proofs.lemmas.List.{length-take-le, take_more}
use mathlib.Core.Bool.{xor}
use Rattle.lz_circuit.specs.Values.{majority, value_at}
use Rattle.g_net.specs.Network.{NetworkValue, LiteralsBelow, node_count, source_bits}
use Rattle.g_net.specs.Run.{literal_value}
use Rattle.g_net.specs.Walk.{values_of}
use Rattle.g_rules.specs.Literals.{inverse_of, inverted_of, literal_node}
use Rattle.g_build.specs.Building.{Builds, HasValue}
use Rattle.g_arith.specs.Operators.{bit, added, subtracted}
use Rattle.g_arith.specs.Sums.{IsSum, IsInverse}
use Rattle.g_arith.specs.Words.{Adds, HasBit, HasNumber, number_in, bit_in, word_value}
use Rattle.g_arith.proofs.Growth.{all_there, same_sources, builds_further}
use Rattle.g_arith.proofs.Numbers.{word_push, word_take, number_keeps, below_push, below_split, two_more, word_below, rest_of}

-- the laws of inverted literals
abbrev pub Inverts : Type 0
Inverts = (values : List Bool) (literal : ℕ) (invert : Bool) → literal_value values (inverted_of literal invert) ≡ xor invert (literal_value values literal)

abbrev pub OfOneNode : Type 0
OfOneNode = (literal : ℕ) (invert : Bool) → literal_node (inverted_of literal invert) ≡ literal_node literal

pub literal_zero : (values : List Bool) → value_at values 0 ≡ false → literal_value values 0 ≡ false
unfolding xor
literal_zero values is = ap (xor false) is

pub literal_one : (values : List Bool) → value_at values 0 ≡ false → literal_value values 1 ≡ true
unfolding xor
literal_one values is = ap (xor true) is

-- a carry pair shows the sum of three bits
sum_of_three : (a b c : Bool) → bit (xor a (xor b c)) + 2 * bit (majority a b c) ≡ bit a + bit b + bit c
unfolding xor
sum_of_three true true true = refl
sum_of_three true true false = refl
sum_of_three true false true = refl
sum_of_three true false false = refl
sum_of_three false true true = refl
sum_of_three false true false = refl
sum_of_three false false true = refl
sum_of_three false false false = refl

-- a sum with one place more
place_more : (P W N X Y C s m a b c X' Y' L : ℕ) → W ≡ N + P * s → L ≡ 2 * P → X' ≡ X + P * a → Y' ≡ Y + P * b → N + P * c ≡ X + Y + C → s + 2 * m ≡ a + b + c
    → W + L * m ≡ X' + Y' + C
place_more P W N X Y C s m a b c X' Y' L w l x y before one =
    let sums : P * (s + 2 * m) ≡ P * (a + b + c) = ap (λ k. P * k) one in
    let outs : L * m ≡ 2 * P * m = ap (λ k. k * m) l in
    omega (arith, sums, outs)

pub sum_none : (old : NetworkValue) (x y : List ℕ) (carry : ℕ) → carry / 2 < node_count old → IsSum old old (take 0 x) (take 0 y) carry [] carry
sum_none old x y carry there = record { long = refl; bits_there = λ k within. absurd (omega arith); out_there = there; equal = λ sources many. omega arith }

pub sum_more : (old now new : NetworkValue) (x y : List ℕ) (carry i : ℕ) (bits : List ℕ) (c sum out : ℕ) → Adds old now → Builds now new → i < length x → length y ≡ length x
    → LiteralsBelow (node_count old) x → LiteralsBelow (node_count old) y → IsSum old now (take i x) (take i y) carry bits c
    → HasValue new sum (λ values. xor (literal_value values (slice_index x i)) (xor (literal_value values (slice_index y i)) (literal_value values c)))
    → HasValue new out (λ values. majority (literal_value values (slice_index x i)) (literal_value values (slice_index y i)) (literal_value values c))
    → IsSum old new (take (i + 1) x) (take (i + 1) y) carry (bits ++ sum ∷ []) out
sum_more old now new x y carry i bits c sum out f g within same x_there y_there before s m =
    let h : Builds old new = builds_further old now new f.builds g in
    let long : length bits ≡ i = before.long ∙ length-take-le i x (omega arith) in
    record {
      long = length-append bits (sum ∷ []) ∙ omega (arith, long, length-take-le (i + 1) x (omega arith));
      bits_there = below_push (node_count new) bits sum (all_there now new bits g before.bits_there) s.there;
      out_there = m.there;
      equal = λ sources many.
          let now_many : length sources ≡ source_bits now = many ∙ sym (same_sources old now f.builds) in
          let new_many : length sources ≡ source_bits new = many ∙ sym (same_sources old new h) in
          let a : bit_in new sources (slice_index x i) ≡ bit_in old sources (slice_index x i) = h.keeps sources (slice_index x i) many (x_there i within) in
          let b : bit_in new sources (slice_index y i) ≡ bit_in old sources (slice_index y i) = h.keeps sources (slice_index y i) many (y_there i (omega arith)) in
          let d : bit_in new sources c ≡ bit_in now sources c = g.keeps sources c now_many before.out_there in
          let pushed : number_in new sources (bits ++ sum ∷ []) ≡ number_in now sources bits + 2 ^ i * bit (bit_in new sources sum) =
          word_push (values_of new sources) bits sum ∙ ap (λ k. number_in new sources bits + 2 ^ k * bit (bit_in new sources sum)) long
          ∙ ap (λ n. n + 2 ^ i * bit (bit_in new sources sum)) (number_keeps now new bits sources g now_many before.bits_there) in
          let wider : 2 ^ length (bits ++ sum ∷ []) ≡ 2 * 2 ^ i = ap (λ k. 2 ^ k) (length-append bits (sum ∷ [])) ∙ two_more (length bits) ∙ ap (λ k. 2 * 2 ^ k) long in
          let sums : number_in now sources bits + 2 ^ i * bit (bit_in now sources c) ≡ number_in old sources (take i x) + number_in old sources (take i y) + bit (bit_in old sources carry) =
          ap (λ k. number_in now sources bits + 2 ^ k * bit (bit_in now sources c)) (sym long) ∙ before.equal sources many in
          let one : bit (bit_in new sources sum) + 2 * bit (bit_in new sources out) ≡ bit (bit_in old sources (slice_index x i)) + bit (bit_in old sources (slice_index y i)) + bit (bit_in now sources c) =
          ap (λ v. bit v + 2 * bit (bit_in new sources out)) (s.equal sources new_many)
          ∙ ap (λ v. bit (xor (bit_in new sources (slice_index x i)) (xor (bit_in new sources (slice_index y i)) (bit_in new sources c))) + 2 * bit v) (m.equal sources new_many)
          ∙ sum_of_three (bit_in new sources (slice_index x i)) (bit_in new sources (slice_index y i)) (bit_in new sources c)
          ∙ ap (λ v. bit v + bit (bit_in new sources (slice_index y i)) + bit (bit_in new sources c)) a
          ∙ ap (λ v. bit (bit_in old sources (slice_index x i)) + bit v + bit (bit_in new sources c)) b
          ∙ ap (λ v. bit (bit_in old sources (slice_index x i)) + bit (bit_in old sources (slice_index y i)) + bit v) d in
          place_more (2 ^ i) (number_in new sources (bits ++ sum ∷ [])) (number_in now sources bits) (number_in old sources (take i x)) (number_in old sources (take i y)) (bit (bit_in old sources carry))
          (bit (bit_in new sources sum)) (bit (bit_in new sources out)) (bit (bit_in old sources (slice_index x i))) (bit (bit_in old sources (slice_index y i))) (bit (bit_in now sources c))
          (number_in old sources (take (i + 1) x)) (number_in old sources (take (i + 1) y)) (2 ^ length (bits ++ sum ∷ []))
          pushed wider (word_take (values_of old sources) x i within) (word_take (values_of old sources) y i (omega arith)) sums one;
    }

pub sum_adds : (old new : NetworkValue) (x y : List ℕ) (carry : ℕ) (bits : List ℕ) (out : ℕ) → Adds old new → IsSum old new x y carry bits out
    → HasNumber new bits (length x) (λ sources. added (length x) (number_in old sources x) (number_in old sources y) (bit_in old sources carry))
sum_adds old new x y carry bits out f h = record {
  long = h.long;
  there = h.bits_there;
  equal = λ sources many.
      rest_of (number_in new sources bits) (2 ^ length x) (bit (bit_in new sources out)) (number_in old sources x + number_in old sources y + bit (bit_in old sources carry))
      (ap (λ k. number_in new sources bits + 2 ^ k * bit (bit_in new sources out)) (sym h.long) ∙ h.equal sources (many ∙ same_sources old new f.builds))
      (word_below (values_of new sources) bits (length x) h.long);
}

pub sum_subtracts : (old new : NetworkValue) (x y inverted bits : List ℕ) → HasBit old 1 (λ sources. true) → length y ≡ length x → IsInverse y inverted → Adds old new
    → HasNumber new bits (length x) (λ sources. added (length x) (number_in old sources x) (number_in old sources inverted) (bit_in old sources 1))
    → HasNumber new bits (length x) (λ sources. subtracted (length x) (number_in old sources x) (number_in old sources y))
sum_subtracts old new x y inverted bits one same inverse f h = record {
  long = h.long;
  there = h.there;
  equal = λ sources many.
      let carry : bit (bit_in old sources 1) ≡ 1 = ap bit (one.equal sources (many ∙ same_sources old new f.builds)) in
      let power : number_in old sources inverted + number_in old sources y + 1 ≡ 2 ^ length x = inverse.equal (values_of old sources) ∙ ap (λ k. 2 ^ k) same in
      let total : number_in old sources x + number_in old sources inverted + bit (bit_in old sources 1) ≡ number_in old sources x + (2 ^ length x - number_in old sources y) = omega (arith, carry, power) in
      h.equal sources many ∙ ap (λ k. k % 2 ^ length x) total;
}

-- a word with one more literal, and its inverse
inverse_bit : (b : Bool) → bit (xor true b) + bit b ≡ 1
unfolding xor
inverse_bit true = refl
inverse_bit false = refl

power_more : (p n m a b w : ℕ) → w ≡ 2 * p → m + n + 1 ≡ p → a + b ≡ 1 → m + p * a + (n + p * b) + 1 ≡ w
power_more p n m a b w wide before one =
    let both : p * (a + b) ≡ p * 1 = ap (λ k. p * k) one in
    omega (arith, both)

pub inverse_more : Inverts → OfOneNode → (word bits : List ℕ) (i literal : ℕ) → literal ≡ inverse_of (slice_index word i) → i < length word → IsInverse (take i word) bits
    → IsInverse (take (i + 1) word) (bits ++ literal ∷ [])
inverse_more inverts one word bits i literal is within h =
    let high : length (take i word) ≡ i = length-take-le i word (omega arith) in
    let next : length (take (i + 1) word) ≡ i + 1 = length-take-le (i + 1) word (omega arith) in
    let long : length bits ≡ i = h.long ∙ high in
    record {
      long = length-append bits (literal ∷ []) ∙ omega (arith, long, next);
      there = λ count there.
          let split : take (i + 1) word ≡ take i word ++ slice_index word i ∷ [] = take_more word i 0 within in
          let both = below_split count (take i word) (slice_index word i) (subst (LiteralsBelow count) split there) in
          let same : literal / 2 ≡ slice_index word i / 2 = ap (λ k. k / 2) is ∙ one (slice_index word i) true in
          below_push count bits literal (h.there count both.0) (omega (arith, both.1, same));
      equal = λ values.
          let apart : bit (literal_value values literal) + bit (literal_value values (slice_index word i)) ≡ 1 =
          ap (λ l. bit (literal_value values l) + bit (literal_value values (slice_index word i))) is
          ∙ ap (λ v. bit v + bit (literal_value values (slice_index word i))) (inverts values (slice_index word i) true) ∙ inverse_bit (literal_value values (slice_index word i)) in
          let wide : 2 ^ length (take (i + 1) word) ≡ 2 * 2 ^ i = ap (λ k. 2 ^ k) next ∙ two_more i in
          let pushed : word_value values (bits ++ literal ∷ []) ≡ word_value values bits + 2 ^ i * bit (literal_value values literal) =
          word_push values bits literal ∙ ap (λ k. word_value values bits + 2 ^ k * bit (literal_value values literal)) long in
          let before : word_value values bits + word_value values (take i word) + 1 ≡ 2 ^ i = h.equal values ∙ ap (λ k. 2 ^ k) high in
          ap (λ k. k + word_value values (take (i + 1) word) + 1) pushed
          ∙ ap (λ k. word_value values bits + 2 ^ i * bit (literal_value values literal) + k + 1) (word_take values word i within)
          ∙ power_more (2 ^ i) (word_value values (take i word)) (word_value values bits) (bit (literal_value values literal)) (bit (literal_value values (slice_index word i))) (2 ^ length (take (i + 1) word)) wide before apart;
    }
