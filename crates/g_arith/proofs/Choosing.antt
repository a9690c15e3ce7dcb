-- Gates, and words that are chosen bit by bit.
use Rattle.std.proofs.Common.{◌≡◌, ◌<◌, ◌+◌, ◌*◌, ◌^◌, ◌/◌, ℕ, List, [], ◌∷◌, ◌++◌, length, take, Bool, true, false, ◌&&◌, if◌then◌else◌, refl, sym, ap, ◌∙◌, arith, length-append}
use Rattle.std.specs.Prelude.{slice_index}
use Rattle.std.proofs.Math.Seq.{take-length}
use mathlib.Core.Bool.{xor}
use Rattle.g_net.specs.Network.{NetworkValue, LiteralsBelow, node_count, source_bits}
use Rattle.g_net.specs.Run.{literal_value}
use Rattle.g_net.specs.Walk.{values_of}
use Rattle.g_build.specs.Building.{Builds, HasValue}
use Rattle.g_arith.specs.Operators.{bit}
use Rattle.g_arith.specs.Words.{Adds, HasBit, HasNumber, number_in, bit_in}
use Rattle.g_arith.proofs.Growth.{all_there, same_sources, adds_further, bit_keeps, bits_before}
use Rattle.g_arith.proofs.Numbers.{word_push, word_take, number_keeps, below_push}

pub and_has : (old new : NetworkValue) (a b literal : ℕ) → Builds old new → a / 2 < node_count old → b / 2 < node_count old → HasValue new literal (λ values. literal_value values a && literal_value values b)
    → HasBit new literal (λ sources. bit_in old sources a && bit_in old sources b)
and_has old new a b literal h first second is = record {
  there = is.there;
  equal = λ sources many.
      let before : length sources ≡ source_bits old = many ∙ same_sources old new h in
      is.equal sources many ∙ ap (λ v. v && bit_in new sources b) (h.keeps sources a before first) ∙ ap (λ v. bit_in old sources a && v) (h.keeps sources b before second);
}

pub xor_has : (old new : NetworkValue) (a b literal : ℕ) → Builds old new → a / 2 < node_count old → b / 2 < node_count old → HasValue new literal (λ values. xor (literal_value values a) (literal_value values b))
    → HasBit new literal (λ sources. xor (bit_in old sources a) (bit_in old sources b))
xor_has old new a b literal h first second is = record {
  there = is.there;
  equal = λ sources many.
      let before : length sources ≡ source_bits old = many ∙ same_sources old new h in
      is.equal sources many ∙ ap (λ v. xor v (bit_in new sources b)) (h.keeps sources a before first) ∙ ap (λ v. xor (bit_in old sources a) v) (h.keeps sources b before second);
}

multiplexer : (c x y : Bool) → xor x (xor true c && xor x y) ≡ (if c then x else y)
unfolding xor
multiplexer true true y = refl
multiplexer true false y = refl
multiplexer false true true = refl
multiplexer false true false = refl
multiplexer false false true = refl
multiplexer false false false = refl

-- the value of a literal's inverse
abbrev pub IsComplement : ℕ → ℕ → Type 0
IsComplement literal inverse = (values : List Bool) → literal_value values inverse ≡ xor true (literal_value values literal)

pub bit_chosen : (a b c d : NetworkValue) (condition inverse x y differ change literal : ℕ) → IsComplement condition inverse → Adds a b → Adds b c → Adds c d → condition / 2 < node_count a → x / 2 < node_count a
    → HasBit b differ (λ sources. xor (bit_in a sources x) (bit_in a sources y)) → HasBit c change (λ sources. bit_in b sources inverse && bit_in b sources differ)
    → HasBit d literal (λ sources. xor (bit_in c sources x) (bit_in c sources change)) → HasBit d literal (λ sources. if bit_in a sources condition then bit_in a sources x else bit_in a sources y)
bit_chosen a b c d condition inverse x y differ change literal complement f g h first second p q r = record {
  there = r.there;
  equal = λ sources many.
      let in_c : length sources ≡ source_bits c = bits_before c d sources h many in
      let in_b : length sources ≡ source_bits b = bits_before b c sources g in_c in
      r.equal sources many
      ∙ ap (λ v. xor v (bit_in c sources change)) (bit_keeps a c sources x (adds_further a b c f g) in_c second)
      ∙ ap (λ v. xor (bit_in a sources x) v) (q.equal sources in_c)
      ∙ ap (λ v. xor (bit_in a sources x) (v && bit_in b sources differ)) (complement (values_of b sources) ∙ ap (xor true) (bit_keeps a b sources condition f in_b first))
      ∙ ap (λ v. xor (bit_in a sources x) (xor true (bit_in a sources condition) && v)) (p.equal sources in_b)
      ∙ multiplexer (bit_in a sources condition) (bit_in a sources x) (bit_in a sources y);
}

-- one more bit of the number that is chosen
choice_more : (c a b : Bool) (p m n m' n' : ℕ) → m' ≡ m + p * bit a → n' ≡ n + p * bit b → (if c then m else n) + p * bit (if c then a else b) ≡ (if c then m' else n')
choice_more true a b p m n m' n' e f = sym e
choice_more false a b p m n m' n' e f = sym f

pub chosen_none : (a : NetworkValue) (condition : ℕ) (x y : List ℕ) → HasNumber a [] 0 (λ sources. if bit_in a sources condition then number_in a sources (take 0 x) else number_in a sources (take 0 y))
chosen_none a condition x y = record { long = refl; there = λ k within. absurd (omega arith); equal = λ sources many. choice_same (bit_in a sources condition) 0 }
  where
    choice_same : (c : Bool) (n : ℕ) → n ≡ (if c then n else n)
    choice_same true n = refl
    choice_same false n = refl

pub chosen_more : (a b c : NetworkValue) (condition : ℕ) (x y bits : List ℕ) (i literal : ℕ) → Adds a b → Adds b c → condition / 2 < node_count a → i < length x → length y ≡ length x
    → LiteralsBelow (node_count a) x → LiteralsBelow (node_count a) y
    → HasNumber b bits i (λ sources. if bit_in a sources condition then number_in a sources (take i x) else number_in a sources (take i y))
    → HasBit c literal (λ sources. if bit_in b sources condition then bit_in b sources (slice_index x i) else bit_in b sources (slice_index y i))
    → HasNumber c (bits ++ literal ∷ []) (i + 1) (λ sources. if bit_in a sources condition then number_in a sources (take (i + 1) x) else number_in a sources (take (i + 1) y))
chosen_more a b c condition x y bits i literal f g there within same first second before one = record {
  long = length-append bits (literal ∷ []) ∙ ap (λ k. k + 1) before.long;
  there = below_push (node_count c) bits literal (all_there b c bits g.builds before.there) one.there;
  equal = λ sources many.
      let in_b : length sources ≡ source_bits b = bits_before b c sources g many in
      let high : i < length y = omega (arith, same) in
      word_push (values_of c sources) bits literal
      ∙ ap (λ k. number_in c sources bits + 2 ^ k * bit (bit_in c sources literal)) before.long
      ∙ ap (λ n. n + 2 ^ i * bit (bit_in c sources literal)) (number_keeps b c bits sources g.builds in_b before.there ∙ before.equal sources in_b)
      ∙ ap (λ v. (if bit_in a sources condition then number_in a sources (take i x) else number_in a sources (take i y)) + 2 ^ i * bit v)
      (one.equal sources many
      ∙ ap (λ v. if v then bit_in b sources (slice_index x i) else bit_in b sources (slice_index y i)) (bit_keeps a b sources condition f in_b there)
      ∙ ap (λ v. if bit_in a sources condition then v else bit_in b sources (slice_index y i)) (bit_keeps a b sources (slice_index x i) f in_b (first i within))
      ∙ ap (λ v. if bit_in a sources condition then bit_in a sources (slice_index x i) else v) (bit_keeps a b sources (slice_index y i) f in_b (second i high)))
      ∙ choice_more (bit_in a sources condition) (bit_in a sources (slice_index x i)) (bit_in a sources (slice_index y i)) (2 ^ i) (number_in a sources (take i x)) (number_in a sources (take i y)) (number_in a sources (take (i + 1) x))
      (number_in a sources (take (i + 1) y)) (word_take (values_of a sources) x i within) (word_take (values_of a sources) y i high);
}

pub chosen_all : (a b : NetworkValue) (condition : ℕ) (x y bits : List ℕ) (i : ℕ) → i ≡ length x → length y ≡ length x
    → HasNumber b bits i (λ sources. if bit_in a sources condition then number_in a sources (take i x) else number_in a sources (take i y))
    → HasNumber b bits (length x) (λ sources. if bit_in a sources condition then number_in a sources x else number_in a sources y)
chosen_all a b condition x y bits i all same h =
    let wx : take i x ≡ x = ap (λ k. take k x) all ∙ take-length x in
    let wy : take i y ≡ y = ap (λ k. take k y) (all ∙ sym same) ∙ take-length y in
    record {
      long = h.long ∙ all;
      there = h.there;
      equal = λ sources many. h.equal sources many ∙ ap (λ w. if bit_in a sources condition then number_in a sources w else number_in a sources (take i y)) wx
          ∙ ap (λ w. if bit_in a sources condition then number_in a sources x else number_in a sources w) wy;
    }
