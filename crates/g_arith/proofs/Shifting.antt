-- Words that are shifted, stage by stage.
use Rattle.std.proofs.Common.{◌≡◌, ◌==◌, ◌⊎◌, inl, inr, ◌≤◌, ◌<◌, ◌+◌, ◌-◌, ◌*◌, ◌^◌, ◌/◌, ℕ, List, length, take, drop, Bool, true, false, if◌then◌else◌, refl, sym, subst, ap, ◌∙◌, arith, length-drop}
use Rattle.std.specs.Prelude.{slice_index, replicate}
use Rattle.std.proofs.Math.Nat.{le-mul_of_pos_right}
use Rattle.std.proofs.Math.Seq.{take-length}
use Rattle.std.proofs.lemmas.Bool.Decides.{nat_tests}
use Rattle.g_net.specs.Network.{NetworkValue, LiteralsBelow, node_count, source_bits}
use Rattle.g_net.specs.Walk.{values_of}
use Rattle.g_arith.specs.Moves.{moved}
use Rattle.g_arith.specs.Operators.{bit, shifted}
use Rattle.g_arith.specs.Words.{Adds, HasBit, HasNumber, number_in, bit_in}
use Rattle.g_arith.proofs.Growth.{bit_keeps, bits_before}
use Rattle.g_arith.proofs.Moving.{moved_number, moved_length, shifted_twice, shifted_none, shifted_out, word_copies, word_split, drop_below}
use Rattle.g_arith.proofs.Numbers.{word_take, word_below, number_keeps}

pub stages_none : (a : NetworkValue) (left : Bool) (fill : ℕ) (x amount word : List ℕ) → word ≡ x → LiteralsBelow (node_count a) x
    → HasNumber a word (length x) (λ sources. shifted left (length x) (bit_in a sources fill) (number_in a sources x) (number_in a sources (take 0 amount)))
stages_none a left fill x amount word is there = record {
  long = ap length is;
  there = subst (LiteralsBelow (node_count a)) (sym is) there;
  equal = λ sources many. ap (number_in a sources) is ∙ sym (shifted_none left (length x) (bit_in a sources fill) (number_in a sources x) (word_below (values_of a sources) x (length x) refl));
}

stage_choice : (c left : Bool) (w : ℕ) (f : Bool) (m n p n' : ℕ) → n' ≡ n + p * bit c → (if c then shifted left w f m (n + p) else shifted left w f m n) ≡ shifted left w f m n'
stage_choice true left w f m n p n' is = let e : n + p ≡ n' = omega arith in ap (shifted left w f m) e
stage_choice false left w f m n p n' is = let e : n ≡ n' = omega arith in ap (shifted left w f m) e

stages_more : (a b c : NetworkValue) (left : Bool) (fill : ℕ) (x amount word shift bits : List ℕ) (i : ℕ) → Adds a b → Adds b c → fill / 2 < node_count a → LiteralsBelow (node_count a) amount → i < length amount
    → HasNumber b word (length x) (λ sources. shifted left (length x) (bit_in a sources fill) (number_in a sources x) (number_in a sources (take i amount)))
    → shift ≡ moved left (2 ^ i) fill word
    → HasNumber c bits (length shift) (λ sources. if bit_in b sources (slice_index amount i) then number_in b sources shift else number_in b sources word)
    → HasNumber c bits (length x) (λ sources. shifted left (length x) (bit_in a sources fill) (number_in a sources x) (number_in a sources (take (i + 1) amount)))
stages_more a b c left fill x amount word shift bits i f g filled there within before is after = record {
  long = after.long ∙ ap length is ∙ moved_length left (2 ^ i) fill word ∙ before.long;
  there = after.there;
  equal = λ sources many.
      let in_b : length sources ≡ source_bits b = bits_before b c sources g many in
      let one : number_in b sources shift ≡ shifted left (length x) (bit_in a sources fill) (number_in a sources x) (number_in a sources (take i amount) + 2 ^ i) =
      ap (number_in b sources) is ∙ moved_number (values_of b sources) left (2 ^ i) fill word
      ∙ ap (λ w. shifted left w (bit_in b sources fill) (number_in b sources word) (2 ^ i)) before.long
      ∙ ap (λ v. shifted left (length x) v (number_in b sources word) (2 ^ i)) (bit_keeps a b sources fill f in_b filled)
      ∙ ap (λ m. shifted left (length x) (bit_in a sources fill) m (2 ^ i)) (before.equal sources in_b)
      ∙ shifted_twice left (length x) (bit_in a sources fill) (number_in a sources x) (number_in a sources (take i amount)) (2 ^ i) in
      after.equal sources many
      ∙ ap (λ v. if v then number_in b sources shift else number_in b sources word) (bit_keeps a b sources (slice_index amount i) f in_b (there i within))
      ∙ ap (λ m. if bit_in a sources (slice_index amount i) then m else number_in b sources word) one
      ∙ ap (λ m. if bit_in a sources (slice_index amount i) then shifted left (length x) (bit_in a sources fill) (number_in a sources x) (number_in a sources (take i amount) + 2 ^ i) else m) (before.equal sources in_b)
      ∙ stage_choice (bit_in a sources (slice_index amount i)) left (length x) (bit_in a sources fill) (number_in a sources x) (number_in a sources (take i amount)) (2 ^ i) (number_in a sources (take (i + 1) amount))
      (word_take (values_of a sources) amount i within);
}

-- a stage in the code's words: `places` is the power of two, and `item` and `shift` are slices of the words
pub stages_step : (a b c : NetworkValue) (left : Bool) (fill places : ℕ) (x amount word item item_again moved_word shift bits : List ℕ) (i : ℕ) → Adds a b → Adds b c → fill / 2 < node_count a → LiteralsBelow (node_count a) amount
    → i < length amount → places ≡ 2 ^ i → item ≡ word → moved_word ≡ moved left places fill item → shift ≡ moved_word → item_again ≡ word
    → HasNumber b word (length x) (λ sources. shifted left (length x) (bit_in a sources fill) (number_in a sources x) (number_in a sources (take i amount)))
    → HasNumber c bits (length shift) (λ sources. if bit_in b sources (slice_index amount i) then number_in b sources shift else number_in b sources item_again)
    → HasNumber c bits (length x) (λ sources. shifted left (length x) (bit_in a sources fill) (number_in a sources x) (number_in a sources (take (i + 1) amount)))
stages_step a b c left fill places x amount word item item_again moved_word shift bits i f g filled there within power same is slice again before after =
    stages_more a b c left fill x amount word shift bits i f g filled there within before
    (slice ∙ is ∙ ap (λ k. moved left k fill item) power ∙ ap (moved left (2 ^ i) fill) same)
    (subst (λ (w : List ℕ). HasNumber c bits (length shift) (λ sources. if bit_in b sources (slice_index amount i) then number_in b sources shift else number_in b sources w)) again after)

-- the same number of places, said by another amount
pub shift_by : (a b : NetworkValue) (left : Bool) (fill : ℕ) (x low amount bits : List ℕ) → low ≡ amount
    → HasNumber b bits (length x) (λ sources. shifted left (length x) (bit_in a sources fill) (number_in a sources x) (number_in a sources low))
    → HasNumber b bits (length x) (λ sources. shifted left (length x) (bit_in a sources fill) (number_in a sources x) (number_in a sources amount))
shift_by a b left fill x low amount bits is h =
    subst (λ (w : List ℕ). HasNumber b bits (length x) (λ sources. shifted left (length x) (bit_in a sources fill) (number_in a sources x) (number_in a sources w))) is h

pub stages_all : (a b : NetworkValue) (left : Bool) (fill : ℕ) (x amount bits : List ℕ) (i : ℕ) → i ≡ length amount
    → HasNumber b bits (length x) (λ sources. shifted left (length x) (bit_in a sources fill) (number_in a sources x) (number_in a sources (take i amount)))
    → HasNumber b bits (length x) (λ sources. shifted left (length x) (bit_in a sources fill) (number_in a sources x) (number_in a sources amount))
stages_all a b left fill x amount bits i all h = shift_by a b left fill x (take i amount) amount bits (ap (λ k. take k amount) all ∙ take-length amount) h

none_is : (n : ℕ) → (n == 0) ≡ true → n ≡ 0
none_is n h = grind (arith, nat_tests, h)

some_is : (n : ℕ) → (n == 0) ≡ false → 0 < n
some_is n h = grind (arith, nat_tests, h)

over_by : (t left : Bool) (w : ℕ) (f : Bool) (m count low high amount : ℕ) → (high == 0) ≡ t → m < 2 ^ w → w ≤ 2 ^ count → amount ≡ low + 2 ^ count * high
    → (if t then shifted left w f m low else bit f * (2 ^ w - 1)) ≡ shifted left w f m amount
over_by true left w f m count low high amount is below wide whole =
    let none : high ≡ 0 = none_is high is in
    let same : low ≡ amount = sym (whole ∙ ap (λ k. low + 2 ^ count * k) none ∙ omega arith) in
    ap (shifted left w f m) same
over_by false left w f m count low high amount is below wide whole =
    let product : 2 ^ count ≤ 2 ^ count * high = le-mul_of_pos_right (2 ^ count) (some_is high is) in
    sym (shifted_out left w f m amount below (omega (arith, product)))

-- where a bit of the amount stands for the width or more, every bit is moved out
shift_over : (a b c d : NetworkValue) (left : Bool) (fill count none : ℕ) (x amount low above zeros word fills bits : List ℕ) → Adds a b → Adds b c → Adds c d → HasBit b 0 (λ sources. false)
    → fill / 2 < node_count a → LiteralsBelow (node_count a) amount → count ≤ length amount → length x ≤ 2 ^ count
    → low ≡ take count amount → above ≡ drop count amount → zeros ≡ replicate (length above) 0 → fills ≡ replicate (length x) fill
    → HasNumber b word (length x) (λ sources. shifted left (length x) (bit_in a sources fill) (number_in a sources x) (number_in a sources low))
    → HasBit c none (λ sources. number_in b sources above == number_in b sources zeros)
    → HasNumber d bits (length word) (λ sources. if bit_in c sources none then number_in c sources word else number_in c sources fills)
    → HasNumber d bits (length x) (λ sources. shifted left (length x) (bit_in a sources fill) (number_in a sources x) (number_in a sources amount))
shift_over a b c d left fill count none x amount low above zeros word fills bits f g h zeroth filled there within wide is_low is_above is_zeros is_fills p q r = record {
  long = r.long ∙ p.long;
  there = r.there;
  equal = λ sources many.
      let in_c : length sources ≡ source_bits c = bits_before c d sources h many in
      let in_b : length sources ≡ source_bits b = bits_before b c sources g in_c in
      let in_a : length sources ≡ source_bits a = bits_before a b sources f in_b in
      let above_there : LiteralsBelow (node_count a) above = subst (LiteralsBelow (node_count a)) (sym is_above) (drop_below (node_count a) count amount there) in
      let high : number_in b sources above ≡ number_in a sources (drop count amount) = number_keeps a b above sources f.builds in_a above_there ∙ ap (number_in a sources) is_above in
      let empty : number_in b sources zeros ≡ 0 =
      ap (number_in b sources) is_zeros ∙ word_copies (values_of b sources) (length above) 0 ∙ ap (λ v. bit v * (2 ^ length above - 1)) (zeroth.equal sources in_b) ∙ omega arith in
      let kept : number_in c sources word ≡ shifted left (length x) (bit_in a sources fill) (number_in a sources x) (number_in a sources (take count amount)) =
      number_keeps b c word sources g.builds in_b p.there ∙ p.equal sources in_b ∙ ap (λ w. shifted left (length x) (bit_in a sources fill) (number_in a sources x) (number_in a sources w)) is_low in
      let full : number_in c sources fills ≡ bit (bit_in a sources fill) * (2 ^ length x - 1) =
      ap (number_in c sources) is_fills ∙ word_copies (values_of c sources) (length x) fill
      ∙ ap (λ v. bit v * (2 ^ length x - 1)) (bit_keeps b c sources fill g in_c (omega (arith, f.longer, filled)) ∙ bit_keeps a b sources fill f in_b filled) in
      r.equal sources many
      ∙ ap (λ v. if v then number_in c sources word else number_in c sources fills) (q.equal sources in_c ∙ ap (λ k. k == number_in b sources zeros) high ∙ ap (λ k. number_in a sources (drop count amount) == k) empty)
      ∙ ap (λ m. if number_in a sources (drop count amount) == 0 then m else number_in c sources fills) kept
      ∙ ap (λ m. if number_in a sources (drop count amount) == 0 then shifted left (length x) (bit_in a sources fill) (number_in a sources x) (number_in a sources (take count amount)) else m) full
      ∙ over_by (number_in a sources (drop count amount) == 0) left (length x) (bit_in a sources fill) (number_in a sources x) count (number_in a sources (take count amount)) (number_in a sources (drop count amount)) (number_in a sources amount)
      refl (word_below (values_of a sources) x (length x) refl) wide (word_split (values_of a sources) amount count within);
}

pub shift_all : (a b c d : NetworkValue) (left : Bool) (fill count none : ℕ) (x amount low above zeros word item fills bits : List ℕ) → Adds a b → Adds b c → Adds c d → HasBit b 0 (λ sources. false)
    → fill / 2 < node_count a → LiteralsBelow (node_count a) amount → count ≤ length amount → length x ≤ 2 ^ count
    → low ≡ take count amount → above ≡ drop count amount → zeros ≡ replicate (length above) 0 → fills ≡ replicate (length x) fill → item ≡ word
    → HasNumber b word (length x) (λ sources. shifted left (length x) (bit_in a sources fill) (number_in a sources x) (number_in a sources low))
    → HasBit c none (λ sources. number_in b sources above == number_in b sources zeros)
    → HasNumber d bits (length item) (λ sources. if bit_in c sources none then number_in c sources item else number_in c sources fills)
    → HasNumber d bits (length x) (λ sources. shifted left (length x) (bit_in a sources fill) (number_in a sources x) (number_in a sources amount))
shift_all a b c d left fill count none x amount low above zeros word item fills bits f g h zeroth filled there within wide is_low is_above is_zeros is_fills same p q r =
    shift_over a b c d left fill count none x amount low above zeros word fills bits f g h zeroth filled there within wide is_low is_above is_zeros is_fills p q
    (subst (λ (w : List ℕ). HasNumber d bits (length w) (λ sources. if bit_in c sources none then number_in c sources w else number_in c sources fills)) same r)

pub wide_of : (a b w p : ℕ) → (a ≡ b) ⊎ (w ≤ p) → (a ≡ b → ⊥) → w ≤ p
wide_of a b w p (inl same) apart = absurd (apart same)
wide_of a b w p (inr wide) apart = wide

-- all items from a place on
pub rest_whole : (n : ℕ) (items : List ℕ) → take (length items - n) (drop n items) ≡ drop n items
rest_whole n items = ap (λ k. take k (drop n items)) (sym (length-drop n items)) ∙ take-length (drop n items)
