-- Words that are compared.
use Rattle.std.proofs.Common.{◌≡◌, ◌==◌, ◌≤◌, ◌<◌, ◌+◌, ◌-◌, ◌*◌, ◌^◌, ◌/◌, ◌%◌, ℕ, List, [], ◌∷◌, ◌++◌, length, take, nat_lt, Bool, true, false, ◌&&◌, if◌then◌else◌, refl, sym, subst, ap, ◌∙◌, arith, length-append}
use Rattle.std.specs.Prelude.{slice_index}
use Rattle.std.proofs.Math.Seq.{take-length}
use Rattle.std.proofs.lemmas.Bool.Decides.{nat_tests}
use Rattle.std.proofs.lemmas.List.{length-take-le}
use Rattle.std.proofs.lemmas.Nat.{div-mul-add}
use mathlib.Core.Bool.{xor}
use Rattle.lz_base.specs.Bits.{is_negative}
use Rattle.g_net.specs.Network.{NetworkValue, LiteralsBelow, node_count, source_bits}
use Rattle.g_net.specs.Run.{literal_value}
use Rattle.g_net.specs.Walk.{values_of}
use Rattle.g_rules.specs.Literals.{inverted_of}
use Rattle.g_arith.specs.Operators.{bit, is_less}
use Rattle.g_arith.specs.Sums.{IsSum, IsInverse}
use Rattle.g_arith.specs.Words.{Adds, HasBit, number_in, bit_in, word_value}
use Rattle.g_arith.proofs.Adder.{Inverts, OfOneNode}
use Rattle.g_arith.proofs.Choosing.{IsComplement}
use Rattle.g_arith.proofs.Growth.{bit_keeps, bits_before}
use Rattle.g_arith.proofs.Numbers.{word_push, word_take, word_below, below_push, take_below}

equal_shift : (x y p : ℕ) → (x == y) ≡ (x + p == y + p)
equal_shift x y p = grind (arith, nat_tests)

equal_apart : (x y p : ℕ) → x < p → false ≡ (x == y + p)
equal_apart x y p below = grind (arith, nat_tests)

and_true : (b : Bool) → (b && true) ≡ b
and_true true = refl
and_true false = refl

and_false : (b : Bool) → (b && false) ≡ false
and_false true = refl
and_false false = refl

equal_swap : (x y : ℕ) → (x == y) ≡ (y == x)
equal_swap x y = grind (arith, nat_tests)

-- two numbers with a bit more are equal where the numbers are and the bits are
equal_digit : (x y p : ℕ) (a b : Bool) → x < p → y < p → ((x == y) && xor true (xor a b)) ≡ (x + p * bit a == y + p * bit b)
unfolding xor
equal_digit x y p true true f g = let one : p * 1 ≡ p = omega arith in and_true (x == y) ∙ equal_shift x y p ∙ ap (λ k. x + k == y + k) (sym one)
equal_digit x y p true false f g =
    let one : p * 1 ≡ p = omega arith in
    let none : p * 0 ≡ 0 = omega arith in
    let same : y + 0 ≡ y = omega arith in
    and_false (x == y) ∙ equal_apart y x p g ∙ equal_swap y (x + p) ∙ ap (λ k. x + p == k) (sym same) ∙ ap (λ k. x + k == y + 0) (sym one) ∙ ap (λ k. x + p * 1 == y + k) (sym none)
equal_digit x y p false true f g =
    let one : p * 1 ≡ p = omega arith in
    let none : p * 0 ≡ 0 = omega arith in
    let same : x + 0 ≡ x = omega arith in
    and_false (x == y) ∙ equal_apart x y p f ∙ ap (λ k. k == y + p) (sym same) ∙ ap (λ k. x + 0 == y + k) (sym one) ∙ ap (λ k. x + k == y + p * 1) (sym none)
equal_digit x y p false false f g =
    let none : p * 0 ≡ 0 = omega arith in
    and_true (x == y) ∙ equal_shift x y 0 ∙ ap (λ k. x + k == y + k) (sym none)

pub equal_none : (a : NetworkValue) (x y : List ℕ) → HasBit a 1 (λ sources. true) → HasBit a 1 (λ sources. number_in a sources (take 0 x) == number_in a sources (take 0 y))
equal_none a x y one = record { there = one.there; equal = λ sources many. one.equal sources many }

pub equal_more : (a b c d : NetworkValue) (x y : List ℕ) (i same differ inverse literal : ℕ) → IsComplement differ inverse → Adds a b → Adds b c → Adds c d → i < length x → length y ≡ length x
    → LiteralsBelow (node_count a) x → LiteralsBelow (node_count a) y
    → HasBit b same (λ sources. number_in a sources (take i x) == number_in a sources (take i y)) → HasBit c differ (λ sources. xor (bit_in b sources (slice_index x i)) (bit_in b sources (slice_index y i)))
    → HasBit d literal (λ sources. bit_in c sources same && bit_in c sources inverse)
    → HasBit d literal (λ sources. number_in a sources (take (i + 1) x) == number_in a sources (take (i + 1) y))
equal_more a b c d x y i same differ inverse literal complement f g h within long first second p q r = record {
  there = r.there;
  equal = λ sources many.
      let in_c : length sources ≡ source_bits c = bits_before c d sources h many in
      let in_b : length sources ≡ source_bits b = bits_before b c sources g in_c in
      let high : i < length y = omega (arith, long) in
      r.equal sources many
      ∙ ap (λ v. v && bit_in c sources inverse) (bit_keeps b c sources same g in_c p.there ∙ p.equal sources in_b)
      ∙ ap (λ v. (number_in a sources (take i x) == number_in a sources (take i y)) && v)
      (complement (values_of c sources) ∙ ap (xor true) (q.equal sources in_c
      ∙ ap (λ v. xor v (bit_in b sources (slice_index y i))) (bit_keeps a b sources (slice_index x i) f in_b (first i within))
      ∙ ap (λ v. xor (bit_in a sources (slice_index x i)) v) (bit_keeps a b sources (slice_index y i) f in_b (second i high))))
      ∙ equal_digit (number_in a sources (take i x)) (number_in a sources (take i y)) (2 ^ i) (bit_in a sources (slice_index x i)) (bit_in a sources (slice_index y i))
      (word_below (values_of a sources) (take i x) i (length-take-le i x (omega arith))) (word_below (values_of a sources) (take i y) i (length-take-le i y (omega arith)))
      ∙ ap (λ k. k == number_in a sources (take i y) + 2 ^ i * bit (bit_in a sources (slice_index y i))) (sym (word_take (values_of a sources) x i within))
      ∙ ap (λ k. number_in a sources (take (i + 1) x) == k) (sym (word_take (values_of a sources) y i high));
}

pub equal_all : (a b : NetworkValue) (x y : List ℕ) (i literal : ℕ) → i ≡ length x → length y ≡ length x → HasBit b literal (λ sources. number_in a sources (take i x) == number_in a sources (take i y))
    → HasBit b literal (λ sources. number_in a sources x == number_in a sources y)
equal_all a b x y i literal all same h =
    let wx : take i x ≡ x = ap (λ k. take k x) all ∙ take-length x in
    let wy : take i y ≡ y = ap (λ k. take k y) (all ∙ sym same) ∙ take-length y in
    record {
      there = h.there;
      equal = λ sources many. h.equal sources many ∙ ap (λ w. number_in a sources w == number_in a sources (take i y)) wx ∙ ap (λ w. number_in a sources x == number_in a sources w) wy;
    }

less_yes : (x y : ℕ) → x < y → nat_lt x y ≡ true
less_yes x y below = grind (arith, nat_tests)

less_no : (x y : ℕ) → y ≤ x → nat_lt x y ≡ false
less_no x y above = grind (arith, nat_tests)

less_shift : (x y p q : ℕ) → nat_lt (x + p) (y + p) ≡ nat_lt (x + q) (y + q)
less_shift x y p q = grind (arith, nat_tests)

-- with their top bits inverted, signed words are in order as unsigned ones
order_by : (s a b : Bool) (p x y : ℕ) → x < p → y < p → (if s && xor a b then a else nat_lt (x + p * bit a) (y + p * bit b)) ≡ nat_lt (x + p * bit (xor s a)) (y + p * bit (xor s b))
unfolding xor
order_by false true true p x y f g = refl
order_by false true false p x y f g = refl
order_by false false true p x y f g = refl
order_by false false false p x y f g = refl
order_by true true true p x y f g = less_shift x y (p * 1) (p * 0)
order_by true true false p x y f g = sym (less_yes (x + p * 0) (y + p * 1) (omega arith))
order_by true false true p x y f g = sym (less_no (x + p * 1) (y + p * 0) (omega arith))
order_by true false false p x y f g = less_shift x y (p * 0) (p * 1)

bit_test : (b : Bool) → (bit b % 2 == 1) ≡ b
bit_test true = refl
bit_test false = refl

negative_top : (w x : ℕ) (a : Bool) → x < 2 ^ (w - 1) → is_negative w (x + 2 ^ (w - 1) * bit a) ≡ a
negative_top w x a below =
    let turned : x + 2 ^ (w - 1) * bit a ≡ bit a * 2 ^ (w - 1) + x = omega arith in
    ap (λ k. k / 2 ^ (w - 1) % 2 == 1) turned ∙ ap (λ k. k % 2 == 1) (div-mul-add (bit a) (2 ^ (w - 1)) x below) ∙ bit_test a

signed_order : (w : ℕ) (s a b : Bool) (x y : ℕ) → x < 2 ^ (w - 1) → y < 2 ^ (w - 1)
    → is_less w s (x + 2 ^ (w - 1) * bit a) (y + 2 ^ (w - 1) * bit b) ≡ nat_lt (x + 2 ^ (w - 1) * bit (xor s a)) (y + 2 ^ (w - 1) * bit (xor s b))
signed_order w s a b x y f g =
    ap (λ v. if s && xor v (is_negative w (y + 2 ^ (w - 1) * bit b)) then v else nat_lt (x + 2 ^ (w - 1) * bit a) (y + 2 ^ (w - 1) * bit b)) (negative_top w x a f)
    ∙ ap (λ v. if s && xor a v then a else nat_lt (x + 2 ^ (w - 1) * bit a) (y + 2 ^ (w - 1) * bit b)) (negative_top w y b g)
    ∙ order_by s a b (2 ^ (w - 1)) x y f g

-- the carry out of a difference says whether it is negative
carry_order : (out : Bool) (n x y z p : ℕ) → n + p * bit out ≡ x + z + 1 → z + y + 1 ≡ p → n < p → xor true out ≡ nat_lt x y
unfolding xor
carry_order true n x y z p total power below = sym (less_no x y (omega arith))
carry_order false n x y z p total power below = sym (less_yes x y (omega arith))

-- a word and the word with its top literal inverted where it is asked
abbrev pub IsTopped : List ℕ → Bool → List ℕ → Type 0
IsTopped word invert topped = topped ≡ take (length word - 1) word ++ inverted_of (slice_index word (length word - 1)) invert ∷ []

topped_length : (word : List ℕ) (invert : Bool) (topped : List ℕ) → 1 ≤ length word → IsTopped word invert topped → length topped ≡ length word
topped_length word invert topped some is =
    ap length is ∙ length-append (take (length word - 1) word) (inverted_of (slice_index word (length word - 1)) invert ∷ []) ∙ omega (arith, length-take-le (length word - 1) word (omega arith))

topped_number : Inverts → (values : List Bool) (word : List ℕ) (invert : Bool) (topped : List ℕ) → 1 ≤ length word → IsTopped word invert topped
    → word_value values topped ≡ word_value values (take (length word - 1) word) + 2 ^ (length word - 1) * bit (xor invert (literal_value values (slice_index word (length word - 1))))
topped_number inverts values word invert topped some is =
    ap (word_value values) is ∙ word_push values (take (length word - 1) word) (inverted_of (slice_index word (length word - 1)) invert)
    ∙ ap (λ k. word_value values (take (length word - 1) word) + 2 ^ k * bit (literal_value values (inverted_of (slice_index word (length word - 1)) invert))) (length-take-le (length word - 1) word (omega arith))
    ∙ ap (λ v. word_value values (take (length word - 1) word) + 2 ^ (length word - 1) * bit v) (inverts values (slice_index word (length word - 1)) invert)

-- a word's number by its top bit
top_number : (values : List Bool) (word : List ℕ) → 1 ≤ length word
    → word_value values word ≡ word_value values (take (length word - 1) word) + 2 ^ (length word - 1) * bit (literal_value values (slice_index word (length word - 1)))
top_number values word some =
    let whole : length word - 1 + 1 ≡ length word = omega arith in
    sym (ap (word_value values) (ap (λ k. take k word) whole ∙ take-length word)) ∙ word_take values word (length word - 1) (omega arith)

pub topped_below : OfOneNode → (count : ℕ) (word : List ℕ) (invert : Bool) (topped : List ℕ) → 1 ≤ length word → IsTopped word invert topped → LiteralsBelow count word → LiteralsBelow count topped
topped_below one count word invert topped some is h =
    let top : slice_index word (length word - 1) / 2 < count = h (length word - 1) (omega arith) in
    let same : inverted_of (slice_index word (length word - 1)) invert / 2 ≡ slice_index word (length word - 1) / 2 = one (slice_index word (length word - 1)) invert in
    subst (LiteralsBelow count) (sym is) (below_push count (take (length word - 1) word) (inverted_of (slice_index word (length word - 1)) invert) (take_below count (length word - 1) word h) (omega (arith, top, same)))

pub sum_orders : Inverts → (old new : NetworkValue) (x y topped_x topped_y inverted bits : List ℕ) (signed : Bool) (carry literal : ℕ) → HasBit old 1 (λ sources. true) → 1 ≤ length x → length y ≡ length x
    → IsTopped x signed topped_x → IsTopped y signed topped_y → IsInverse topped_y inverted → Adds old new → IsSum old new topped_x inverted 1 bits carry → IsComplement carry literal → literal / 2 ≡ carry / 2
    → HasBit new literal (λ sources. is_less (length x) signed (number_in old sources x) (number_in old sources y))
sum_orders inverts old new x y topped_x topped_y inverted bits signed carry literal one some same is_x is_y inverse f h complement node = record {
  there = omega (arith, node, h.out_there);
  equal = λ sources many.
      let before : length sources ≡ source_bits old = bits_before old new sources f many in
      let some_y : 1 ≤ length y = omega (arith, same) in
      let long_x : length topped_x ≡ length x = topped_length x signed topped_x some is_x in
      let long_y : length topped_y ≡ length x = topped_length y signed topped_y some_y is_y ∙ same in
      let t : length y - 1 ≡ length x - 1 = ap (λ k. k - 1) same in
      let total : number_in new sources bits + 2 ^ length x * bit (bit_in new sources carry) ≡ number_in old sources topped_x + number_in old sources inverted + 1 =
      ap (λ k. number_in new sources bits + 2 ^ k * bit (bit_in new sources carry)) (sym (h.long ∙ long_x)) ∙ h.equal sources before
      ∙ ap (λ b. number_in old sources topped_x + number_in old sources inverted + bit b) (one.equal sources before) in
      let power : number_in old sources inverted + number_in old sources topped_y + 1 ≡ 2 ^ length x = inverse.equal (values_of old sources) ∙ ap (λ k. 2 ^ k) long_y in
      let below : number_in new sources bits < 2 ^ length x = word_below (values_of new sources) bits (length x) (h.long ∙ long_x) in
      let low_x : number_in old sources (take (length x - 1) x) < 2 ^ (length x - 1) = word_below (values_of old sources) (take (length x - 1) x) (length x - 1) (length-take-le (length x - 1) x (omega arith)) in
      let low_y : number_in old sources (take (length x - 1) y) < 2 ^ (length x - 1) = word_below (values_of old sources) (take (length x - 1) y) (length x - 1) (length-take-le (length x - 1) y (omega (arith, same))) in
      let top_x : number_in old sources x ≡ number_in old sources (take (length x - 1) x) + 2 ^ (length x - 1) * bit (bit_in old sources (slice_index x (length x - 1))) = top_number (values_of old sources) x some in
      let top_y : number_in old sources y ≡ number_in old sources (take (length x - 1) y) + 2 ^ (length x - 1) * bit (bit_in old sources (slice_index y (length x - 1))) =
      subst (λ k. number_in old sources y ≡ number_in old sources (take k y) + 2 ^ k * bit (bit_in old sources (slice_index y k))) t (top_number (values_of old sources) y some_y) in
      let turned_x : number_in old sources topped_x ≡ number_in old sources (take (length x - 1) x) + 2 ^ (length x - 1) * bit (xor signed (bit_in old sources (slice_index x (length x - 1)))) =
      topped_number inverts (values_of old sources) x signed topped_x some is_x in
      let turned_y : number_in old sources topped_y ≡ number_in old sources (take (length x - 1) y) + 2 ^ (length x - 1) * bit (xor signed (bit_in old sources (slice_index y (length x - 1)))) =
      subst (λ k. number_in old sources topped_y ≡ number_in old sources (take k y) + 2 ^ k * bit (xor signed (bit_in old sources (slice_index y k)))) t (topped_number inverts (values_of old sources) y signed topped_y some_y is_y) in
      complement (values_of new sources)
      ∙ carry_order (bit_in new sources carry) (number_in new sources bits) (number_in old sources topped_x) (number_in old sources topped_y) (number_in old sources inverted) (2 ^ length x) total power below
      ∙ ap (λ k. nat_lt k (number_in old sources topped_y)) turned_x
      ∙ ap (λ k. nat_lt (number_in old sources (take (length x - 1) x) + 2 ^ (length x - 1) * bit (xor signed (bit_in old sources (slice_index x (length x - 1))))) k) turned_y
      ∙ sym (signed_order (length x) signed (bit_in old sources (slice_index x (length x - 1))) (bit_in old sources (slice_index y (length x - 1))) (number_in old sources (take (length x - 1) x)) (number_in old sources (take (length x - 1) y)) low_x low_y)
      ∙ ap (λ k. is_less (length x) signed k (number_in old sources (take (length x - 1) y) + 2 ^ (length x - 1) * bit (bit_in old sources (slice_index y (length x - 1))))) (sym top_x)
      ∙ ap (λ k. is_less (length x) signed (number_in old sources x) k) (sym top_y);
}
