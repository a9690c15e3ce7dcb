-- Products: a row grows by a bit, and is added to what stands above it.
use Rattle.std.proofs.Common.{◌≡◌, ◌≤◌, ◌<◌, ◌+◌, ◌-◌, ◌*◌, ◌^◌, ◌/◌, ◌%◌, ◌&&◌, ℕ, zero, suc, List, [], ◌∷◌, ◌++◌, length, take, drop, get_or, Bool, true, false, refl, sym, ap, ◌∙◌, arith, add-one, length-append}
use Rattle.std.proofs.Math.Nat.{add-mul-mod_self_left, mod-add-div, mod-lt, mod-eq_of_lt, mod-one}
use Rattle.std.proofs.Math.Seq.{take-length}
use Rattle.std.proofs.lemmas.List.{length-drop, length-take-le}
use Rattle.std.proofs.lemmas.Nat.{pow_pos}
use Rattle.std.specs.Prelude.{slice_index}
use mathlib.Core.Bool.{xor}
use Rattle.g_net.specs.Network.{NetworkValue, LiteralsBelow, node_count, source_bits}
use Rattle.g_net.specs.Run.{literal_value}
use Rattle.g_net.specs.Walk.{values_of}
use Rattle.lz_circuit.specs.Values.{value_at}
use Rattle.g_build.specs.Building.{Builds, HasValue}
use Rattle.g_arith.specs.Operators.{bit, added}
use Rattle.g_arith.specs.Products.{masked, multiplied, with_above}
use Rattle.g_arith.specs.Words.{Adds, HasNumber, number_in, bit_in, word_value}
use Rattle.g_arith.proofs.Growth.{all_there, one_there, same_sources, there_still}
use Rattle.g_arith.proofs.Numbers.{word_push, word_take, number_keeps, below_push, below_cons, bit_small, two_more}

-- literals that are there: two of them, and part of them
pub two_there : (count l m : ℕ) → l / 2 < count → m / 2 < count → LiteralsBelow count (l ∷ m ∷ [])
two_there count l m first second = below_cons count l (m ∷ []) first (below_cons count m [] second (λ k within. absurd (omega arith)))

pub take_there : (count i : ℕ) (word : List ℕ) → LiteralsBelow count word → LiteralsBelow count (take i word)
take_there count zero word h = λ k within. absurd (omega arith)
take_there count (suc i) [] h = λ k within. absurd (omega arith)
take_there count (suc i) (l ∷ word) h = below_cons count l (take i word) (h 0 (omega arith)) (take_there count i word (λ k within. h (suc k) (omega (arith, within))))

pub digit_there : (old now : NetworkValue) (x y : List ℕ) (i : ℕ) → Adds old now → i < length x → length y ≡ length x → LiteralsBelow (node_count old) y → get_or y (length x - 1 - i) 0 / 2 < node_count now
digit_there old now x y i f within same there = one_there old now y (length x - 1 - i) f there (omega (arith, within, same))

-- a word has a number under another name of its width and of the number
same_number : (n : NetworkValue) (word : List ℕ) (w v : ℕ) (f h : List Bool → ℕ) → w ≡ v → ((sources : List Bool) → f sources ≡ h sources) → HasNumber n word w f → HasNumber n word v h
same_number n word w v f h width same made = record { long = made.long ∙ width; there = made.there; equal = λ sources many. made.equal sources many ∙ same sources }

take_whole : (word : List ℕ) (i : ℕ) → i ≡ length word → take i word ≡ word
take_whole word i all = ap (λ k. take k word) all ∙ take-length word

-- a row with one place more
mask_more : (P m n W M : ℕ) (a b : Bool) → W ≡ m + P * bit (a && b) → M ≡ n + P * bit a → m ≡ masked n b → W ≡ masked M b
mask_more P m n W M true true w h before = omega (arith, w, h, before)
mask_more P m n W M false true w h before = omega (arith, w, h, before)
mask_more P m n W M true false w h before = omega (arith, w, before)
mask_more P m n W M false false w h before = omega (arith, w, before)

pub masked_none : (n : NetworkValue) (word : List ℕ) (literal : ℕ) → HasNumber n [] 0 (λ sources. masked (number_in n sources (take 0 word)) (bit_in n sources literal))
masked_none n word literal = record {
  long = refl;
  there = λ k within. absurd (omega arith);
  equal = λ sources many. nothing (bit_in n sources literal);
}
  where
    nothing : (b : Bool) → 0 ≡ masked 0 b
    nothing true = refl
    nothing false = refl

pub masked_more : (old now new : NetworkValue) (word : List ℕ) (literal i : ℕ) (bits : List ℕ) (r : ℕ) → Builds old now → Builds now new → Builds old new → i < length word
    → LiteralsBelow (node_count old) word → literal / 2 < node_count old → HasNumber now bits i (λ sources. masked (number_in old sources (take i word)) (bit_in old sources literal))
    → HasValue new r (λ values. literal_value values (get_or word i 0) && literal_value values literal)
    → HasNumber new (bits ++ r ∷ []) (i + 1) (λ sources. masked (number_in old sources (take (i + 1) word)) (bit_in old sources literal))
masked_more old now new word literal i bits r f g h within word_there there before made = record {
  long = length-append bits (r ∷ []) ∙ omega (arith, before.long);
  there = below_push (node_count new) bits r (all_there now new bits g before.there) made.there;
  equal = λ sources many.
      let old_many : length sources ≡ source_bits old = many ∙ same_sources old new h in
      let now_many : length sources ≡ source_bits now = old_many ∙ sym (same_sources old now f) in
      let a : bit_in new sources (get_or word i 0) ≡ bit_in old sources (get_or word i 0) = h.keeps sources (get_or word i 0) old_many (word_there i within) in
      let b : bit_in new sources literal ≡ bit_in old sources literal = h.keeps sources literal old_many there in
      let top : bit_in new sources r ≡ (bit_in old sources (get_or word i 0) && bit_in old sources literal) =
      made.equal sources many ∙ ap (λ v. v && bit_in new sources literal) a ∙ ap (λ v. bit_in old sources (get_or word i 0) && v) b in
      let pushed : number_in new sources (bits ++ r ∷ []) ≡ number_in now sources bits + 2 ^ i * bit (bit_in old sources (get_or word i 0) && bit_in old sources literal) =
      word_push (values_of new sources) bits r
      ∙ ap (λ k. number_in new sources bits + 2 ^ k * bit (bit_in new sources r)) before.long
      ∙ ap (λ n. n + 2 ^ i * bit (bit_in new sources r)) (number_keeps now new bits sources g now_many before.there)
      ∙ ap (λ v. number_in now sources bits + 2 ^ i * bit v) top in
      mask_more (2 ^ i) (number_in now sources bits) (number_in old sources (take i word)) (number_in new sources (bits ++ r ∷ [])) (number_in old sources (take (i + 1) word))
      (bit_in old sources (get_or word i 0)) (bit_in old sources literal) pushed (word_take (values_of old sources) word i within) (before.equal sources now_many);
}

pub masked_whole : (old new : NetworkValue) (word : List ℕ) (literal i : ℕ) (bits : List ℕ) → i ≡ length word → HasNumber new bits i (λ sources. masked (number_in old sources (take i word)) (bit_in old sources literal))
    → HasNumber new bits (length word) (λ sources. masked (number_in old sources word) (bit_in old sources literal))
masked_whole old new word literal i bits all =
    same_number new bits i (length word) (λ sources. masked (number_in old sources (take i word)) (bit_in old sources literal)) (λ sources. masked (number_in old sources word) (bit_in old sources literal)) all
    (λ sources. ap (λ w. masked (number_in old sources w) (bit_in old sources literal)) (take_whole word i all))

-- a sum whose lowest bit has no carry in
sum_above : (P b k : ℕ) → 0 < P → b ≤ 1 → b + 2 * (k % P) ≡ (b + 2 * k) % (2 * P)
sum_above P b k some small =
    let low : k % P < P = mod-lt k some in
    let whole : b + 2 * (k % P) + 2 * P * (k / P) ≡ b + 2 * k = omega (arith, mod-add-div k P) in
    sym (ap (λ n. n % (2 * P)) (sym whole) ∙ add-mul-mod_self_left (b + 2 * (k % P)) (2 * P) (k / P) ∙ mod-eq_of_lt (omega (arith, low)))

-- the lowest literal of a row and the rest
row_split : (values : List Bool) (row : List ℕ) (n : ℕ) → length row ≡ n + 1 → word_value values row ≡ bit (literal_value values (get_or row 0 0)) + 2 * word_value values (drop 1 row)
row_split values [] n long = absurd (omega (arith, long))
row_split values (l ∷ row) n long = refl

-- a literal without a sign
plain : (v : Bool) → v ≡ false → bit (xor false v) ≡ 0
unfolding xor
plain true e = cc
plain false e = refl

pub has_above : (old new : NetworkValue) (row rest above sum : List ℕ) → rest ≡ drop 1 row → length row ≡ length above + 1 → ((sources : List Bool) → value_at (values_of old sources) 0 ≡ false) → Builds old new
    → LiteralsBelow (node_count old) row
    → HasNumber new sum (length rest) (λ sources. added (length rest) (number_in old sources rest) (number_in old sources above) (bit_in old sources 0))
    → HasNumber new (get_or row 0 0 ∷ sum) (length row) (λ sources. with_above (length row) (number_in old sources row) (number_in old sources above))
has_above old new row rest above sum is long zeroth h row_there made =
    let first : get_or row 0 0 / 2 < node_count old = row_there 0 (omega (arith, long)) in
    let width : length rest ≡ length above = ap length is ∙ length-drop 1 row ∙ omega (arith, long) in
    record {
      long = omega (arith, made.long, width, long);
      there = below_cons (node_count new) (get_or row 0 0) sum (there_still old new (get_or row 0 0) h first) made.there;
      equal = λ sources many.
          let old_many : length sources ≡ source_bits old = many ∙ same_sources old new h in
          let R = number_in old sources rest in
          let low : number_in old sources row ≡ bit (bit_in old sources (get_or row 0 0)) + 2 * R =
          row_split (values_of old sources) row (length above) long ∙ ap (λ w. bit (bit_in old sources (get_or row 0 0)) + 2 * number_in old sources w) (sym is) in
          let A = number_in old sources above in
          let b = bit (bit_in old sources (get_or row 0 0)) in
          let none : bit (bit_in old sources 0) ≡ 0 = plain (value_at (values_of old sources) 0) (zeroth sources) in
          let double : 2 ^ length row ≡ 2 * 2 ^ length above = ap (λ k. 2 ^ k) long ∙ two_more (length above) in
          ap (λ v. bit v + 2 * number_in new sources sum) (h.keeps sources (get_or row 0 0) old_many first)
          ∙ ap (λ n. b + 2 * n) (made.equal sources many ∙ ap (λ k. (R + A + bit (bit_in old sources 0)) % 2 ^ k) width ∙ ap (λ k. (R + A + k) % 2 ^ length above) none)
          ∙ sum_above (2 ^ length above) b (R + A + 0) (pow_pos (length above)) (bit_small (bit_in old sources (get_or row 0 0)))
          ∙ ap (λ n. n % (2 * 2 ^ length above)) (shared b R A (number_in old sources row) low)
          ∙ ap (λ n. (number_in old sources row + 2 * A) % n) (sym double);
    }
  where
    shared : (b R A N : ℕ) → N ≡ b + 2 * R → b + 2 * (R + A + 0) ≡ N + 2 * A
    shared b R A N e = omega (arith, e)

-- a product by the lowest bit and by the higher ones
product_of_rows : (P X X' Y H top : ℕ) (b : Bool) → X ≡ X' + P * top → Y ≡ bit b + 2 * H → (masked X b + 2 * (X' * H % P)) % (2 * P) ≡ X * Y % (2 * P)
product_of_rows P X X' Y H top b x y =
    let cut : X' * H % P + P * (X' * H / P) ≡ X' * H = mod-add-div (X' * H) P in
    let mask : masked X b ≡ X * bit b = mask_times X b in
    let wide : X * H ≡ X' * H + P * (top * H) = ap (λ k. k * H) x ∙ omega arith in
    let whole : X * Y ≡ X * bit b + 2 * (X * H) = ap (λ k. X * k) y ∙ omega arith in
    let parts : masked X b + 2 * (X' * H % P) + 2 * P * (X' * H / P + top * H) ≡ X * Y = omega (arith, cut, mask, wide, whole) in
    sym (ap (λ n. n % (2 * P)) (sym parts) ∙ add-mul-mod_self_left (masked X b + 2 * (X' * H % P)) (2 * P) (X' * H / P + top * H))
  where
    mask_times : (n : ℕ) (c : Bool) → masked n c ≡ n * bit c
    mask_times n true = omega arith
    mask_times n false = omega arith

-- the number of a word by its lowest literal
word_low : (values : List Bool) (word : List ℕ) (j : ℕ) → j < length word → word_value values (drop j word) ≡ bit (literal_value values (get_or word j 0)) + 2 * word_value values (drop (j + 1) word)
word_low values [] j within = absurd (omega arith)
word_low values (l ∷ word) zero within = refl
word_low values (l ∷ word) (suc j) within =
    let rest : drop (suc j + 1) (l ∷ word) ≡ drop (j + 1) word =
    ap (λ k. drop k (l ∷ word)) (add-one (suc j)) ∙ ap (λ k. drop k word) (sym (add-one j)) in
    word_low values word j (omega (arith, within)) ∙ ap (λ w. bit (literal_value values (get_or word j 0)) + 2 * word_value values w) (sym rest)

pub product_none : (n : NetworkValue) (x y : List ℕ) → HasNumber n [] 0 (λ sources. multiplied 0 (number_in n sources (take 0 x)) (number_in n sources (drop (length x - 0) y)))
product_none n x y = record {
  long = refl;
  there = λ k within. absurd (omega arith);
  equal = λ sources many. sym (mod-one (0 * number_in n sources (drop (length x - 0) y)));
}

pub product_more : (a b c d : NetworkValue) (x y : List ℕ) (i : ℕ) (above row bits : List ℕ) → i < length x → length y ≡ length x → LiteralsBelow (node_count a) x → LiteralsBelow (node_count a) y
    → Builds a b → Builds b c → Builds c d
    → HasNumber b above i (λ sources. multiplied i (number_in a sources (take i x)) (number_in a sources (drop (length x - i) y)))
    → HasNumber c row (length (take (i + 1) x)) (λ sources. masked (number_in b sources (take (i + 1) x)) (bit_in b sources (get_or y (length x - 1 - i) 0)))
    → HasNumber d bits (length row) (λ sources. with_above (length row) (number_in c sources row) (number_in c sources above))
    → HasNumber d bits (i + 1) (λ sources. multiplied (i + 1) (number_in a sources (take (i + 1) x)) (number_in a sources (drop (length x - (i + 1)) y)))
product_more a b c d x y i above row bits within same x_there y_there f g h before first made =
    let j = length x - 1 - i in
    let low = get_or y j 0 in
    let below : j < length y = omega (arith, within, same) in
    let width : length row ≡ i + 1 = first.long ∙ length-take-le (i + 1) x (omega (arith, within)) in
    let at : length x - (i + 1) ≡ j = omega (arith, within) in
    let next : j + 1 ≡ length x - i = omega (arith, within) in
    let x_low : LiteralsBelow (node_count a) (take (i + 1) x) = take_there (node_count a) (i + 1) x x_there in
    record {
      long = made.long ∙ width;
      there = made.there;
      equal = λ sources many.
          let c_many : length sources ≡ source_bits c = many ∙ same_sources c d h in
          let b_many : length sources ≡ source_bits b = c_many ∙ same_sources b c g in
          let a_many : length sources ≡ source_bits a = b_many ∙ same_sources a b f in
          let X = number_in a sources (take (i + 1) x) in
          let X' = number_in a sources (take i x) in
          let Y = number_in a sources (drop j y) in
          let H = number_in a sources (drop (length x - i) y) in
          let B = bit_in a sources low in
          let row_is : number_in c sources row ≡ masked X B =
          first.equal sources c_many
          ∙ ap (λ m. masked m (bit_in b sources low)) (number_keeps a b (take (i + 1) x) sources f a_many x_low)
          ∙ ap (λ v. masked X v) (f.keeps sources low a_many (y_there j below)) in
          let above_is : number_in c sources above ≡ X' * H % 2 ^ i = number_keeps b c above sources g b_many before.there ∙ before.equal sources b_many in
          let double : 2 ^ length row ≡ 2 * 2 ^ i = ap (λ k. 2 ^ k) width ∙ two_more i in
          let low_is : Y ≡ bit B + 2 * H = word_low (values_of a sources) y j below ∙ ap (λ k. bit B + 2 * number_in a sources (drop k y)) next in
          made.equal sources many
          ∙ ap (λ m. (m + 2 * number_in c sources above) % 2 ^ length row) row_is
          ∙ ap (λ m. (masked X B + 2 * m) % 2 ^ length row) above_is
          ∙ ap (λ m. (masked X B + 2 * (X' * H % 2 ^ i)) % m) double
          ∙ product_of_rows (2 ^ i) X X' Y H (bit (bit_in a sources (get_or x i 0))) B (word_take (values_of a sources) x i within) low_is
          ∙ ap (λ m. X * Y % m) (sym (two_more i))
          ∙ ap (λ k. X * number_in a sources (drop k y) % 2 ^ (i + 1)) (sym at);
    }

pub product_whole : (a d : NetworkValue) (x y : List ℕ) (i : ℕ) (bits : List ℕ) → i ≡ length x → HasNumber d bits i (λ sources. multiplied i (number_in a sources (take i x)) (number_in a sources (drop (length x - i) y)))
    → HasNumber d bits (length x) (λ sources. multiplied (length x) (number_in a sources x) (number_in a sources y))
product_whole a d x y i bits all =
    let none : length x - i ≡ 0 = omega (arith, all) in
    same_number d bits i (length x) (λ sources. multiplied i (number_in a sources (take i x)) (number_in a sources (drop (length x - i) y))) (λ sources. multiplied (length x) (number_in a sources x) (number_in a sources y)) all
    (λ sources.
    ap (λ k. multiplied i (number_in a sources (take i x)) (number_in a sources (drop k y))) none
    ∙ ap (λ word. multiplied i (number_in a sources word) (number_in a sources y)) (take_whole x i all)
    ∙ ap (λ k. multiplied k (number_in a sources x) (number_in a sources y)) all)
