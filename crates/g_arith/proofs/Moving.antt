-- The numbers of words that are moved by places.
use Rattle.std.proofs.Common.{◌≡◌, ◌≤◌, ◌<◌, ◌+◌, ◌-◌, ◌*◌, ◌^◌, ◌/◌, ◌%◌, ℕ, zero, suc, List, [], ◌∷◌, ◌++◌, length, take, drop, Bool, true, false, sym, ap, ◌∙◌, arith, length-append, length-drop}
use Rattle.std.specs.Prelude.{slice_index, replicate}
use Rattle.std.proofs.Math.Nat.{pow-succ', mod-add-div, add-mul-mod_self_left, add-mul-div_left, div-div-eq-div-mul, div-eq_of_lt, mod-eq_of_lt, pow-le-pow_right}
use Rattle.std.proofs.lemmas.List.{length-take-le, length-replicate, take-append-drop}
use Rattle.std.proofs.lemmas.Nat.{div-mul-add, pow_pos, pow-add}
use Rattle.g_net.specs.Network.{LiteralsBelow}
use Rattle.g_net.specs.Run.{literal_value}
use Rattle.g_arith.specs.Moves.{moved}
use Rattle.g_arith.specs.Operators.{bit, shifted}
use Rattle.g_arith.specs.Words.{word_value}
use Rattle.g_arith.proofs.Numbers.{word_below, rest_of, take_below}

pub word_append : (values : List Bool) (low high : List ℕ) → word_value values (low ++ high) ≡ word_value values low + 2 ^ length low * word_value values high
word_append values [] high = omega arith
word_append values (l ∷ low) high =
    let double : 2 ^ suc (length low) ≡ 2 * 2 ^ length low = pow-succ' 2 (length low) in
    let same : 2 ^ suc (length low) * word_value values high ≡ 2 * (2 ^ length low * word_value values high) = rw double (omega arith) in
    omega (arith, word_append values low high, same)

copies_more : (b : Bool) (p : ℕ) → 0 < p → bit b + 2 * (bit b * (p - 1)) ≡ bit b * (2 * p - 1)
copies_more true p some = omega arith
copies_more false p some = omega arith

pub word_copies : (values : List Bool) (count literal : ℕ) → word_value values (replicate count literal) ≡ bit (literal_value values literal) * (2 ^ count - 1)
word_copies values zero literal = omega arith
word_copies values (suc count) literal =
    ap (λ k. bit (literal_value values literal) + 2 * k) (word_copies values count literal) ∙ copies_more (literal_value values literal) (2 ^ count) (pow_pos count)
    ∙ ap (λ k. bit (literal_value values literal) * (k - 1)) (sym (pow-succ' 2 count))

pub word_split : (values : List Bool) (word : List ℕ) (n : ℕ) → n ≤ length word → word_value values word ≡ word_value values (take n word) + 2 ^ n * word_value values (drop n word)
word_split values word n within =
    sym (ap (word_value values) (take-append-drop n word)) ∙ word_append values (take n word) (drop n word)
    ∙ ap (λ k. word_value values (take n word) + 2 ^ k * word_value values (drop n word)) (length-take-le n word within)

word_low : (values : List Bool) (word : List ℕ) (n : ℕ) → n ≤ length word → word_value values (take n word) ≡ word_value values word % 2 ^ n
word_low values word n within =
    rest_of (word_value values (take n word)) (2 ^ n) (word_value values (drop n word)) (word_value values word) (sym (word_split values word n within)) (word_below values (take n word) n (length-take-le n word within))

word_high : (values : List Bool) (word : List ℕ) (n : ℕ) → n ≤ length word → word_value values (drop n word) ≡ word_value values word / 2 ^ n
word_high values word n within =
    let turned : word_value values (drop n word) * 2 ^ n + word_value values (take n word) ≡ word_value values word = omega (arith, word_split values word n within) in
    sym (div-mul-add (word_value values (drop n word)) (2 ^ n) (word_value values (take n word)) (word_below values (take n word) n (length-take-le n word within))) ∙ ap (λ k. k / 2 ^ n) turned

pub moved_number : (values : List Bool) (left : Bool) (places fill : ℕ) (word : List ℕ)
    → word_value values (moved left places fill word) ≡ shifted left (length word) (literal_value values fill) (word_value values word) places
moved_number values true places fill word =
    let long : length (replicate places fill ++ word) ≡ places + length word = length-append (replicate places fill) word ∙ ap (λ k. k + length word) (length-replicate places fill) in
    let whole : word_value values (replicate places fill ++ word) ≡ word_value values word * 2 ^ places + bit (literal_value values fill) * (2 ^ places - 1) =
    word_append values (replicate places fill) word ∙ ap (λ k. word_value values (replicate places fill) + 2 ^ k * word_value values word) (length-replicate places fill)
    ∙ ap (λ k. k + 2 ^ places * word_value values word) (word_copies values places fill) ∙ omega arith in
    word_low values (replicate places fill ++ word) (length word) (omega (arith, long)) ∙ ap (λ k. k % 2 ^ length word) whole
moved_number values false places fill word =
    let long : length (word ++ replicate places fill) ≡ length word + places = length-append word (replicate places fill) ∙ ap (λ k. length word + k) (length-replicate places fill) in
    let whole : word_value values (word ++ replicate places fill) ≡ word_value values word + bit (literal_value values fill) * (2 ^ places - 1) * 2 ^ length word =
    word_append values word (replicate places fill) ∙ ap (λ k. word_value values word + 2 ^ length word * k) (word_copies values places fill) ∙ omega arith in
    word_high values (word ++ replicate places fill) places (omega (arith, long)) ∙ ap (λ k. k / 2 ^ places) whole

pub moved_length : (left : Bool) (places fill : ℕ) (word : List ℕ) → length (moved left places fill word) ≡ length word
moved_length true places fill word = length-take-le (length word) (replicate places fill ++ word) (omega (arith, length-append (replicate places fill) word))
moved_length false places fill word =
    length-drop places (word ++ replicate places fill) ∙ omega (arith, length-append word (replicate places fill), length-replicate places fill)

pub append_below : (count : ℕ) (low high : List ℕ) → LiteralsBelow count low → LiteralsBelow count high → (k : ℕ) → k < length (low ++ high) → slice_index (low ++ high) k / 2 < count
append_below count [] high f g k within = g k within
append_below count (l ∷ low) high f g zero within = f zero (omega arith)
append_below count (l ∷ low) high f g (suc k) within = append_below count low high (λ j less. f (suc j) (omega arith)) g k (omega arith)

pub copies_below : (count n literal : ℕ) → literal / 2 < count → (k : ℕ) → k < length (replicate n literal) → slice_index (replicate n literal) k / 2 < count
copies_below count zero literal there k within = absurd (omega arith)
copies_below count (suc n) literal there zero within = there
copies_below count (suc n) literal there (suc k) within = copies_below count n literal there k (omega arith)

pub drop_below : (count n : ℕ) (word : List ℕ) → LiteralsBelow count word → (k : ℕ) → k < length (drop n word) → slice_index (drop n word) k / 2 < count
drop_below count zero word f k within = f k within
drop_below count (suc n) [] f k within = absurd (omega arith)
drop_below count (suc n) (l ∷ word) f k within = drop_below count n word (λ j less. f (suc j) (omega arith)) k within

pub moved_below : (count : ℕ) (left : Bool) (places fill : ℕ) (word : List ℕ) → fill / 2 < count → LiteralsBelow count word → LiteralsBelow count (moved left places fill word)
moved_below count true places fill word there h = take_below count (length word) (replicate places fill ++ word) (append_below count (replicate places fill) word (copies_below count places fill there) h)
moved_below count false places fill word there h = drop_below count places (word ++ replicate places fill) (append_below count word (replicate places fill) h (copies_below count places fill there))

-- ---- what shifts make of numbers

mod_through : (x y b w : ℕ) → (x % w * b + y) % w ≡ (x * b + y) % w
mod_through x y b w =
    let whole : x * b + y ≡ x % w * b + y + w * (x / w * b) =
    ap (λ k. k * b + y) (sym (mod-add-div x w)) ∙ omega arith in
    sym (add-mul-mod_self_left (x % w * b + y) w (x / w * b)) ∙ ap (λ k. k % w) (sym whole)

left_twice : (f m a b : ℕ) → (m * (a + 1) + f * a) * (b + 1) + f * b ≡ m * ((a + 1) * (b + 1)) + f * (a * b + a + b)
left_twice f m a b = omega arith

right_twice : (f m a b w : ℕ) → m + f * a * w + (a + 1) * (f * b * w) ≡ m + f * (a * b + a + b) * w
right_twice f m a b w = omega arith

less_one : (a b : ℕ) → (a + 1) * (b + 1) - 1 ≡ a * b + a + b
less_one a b = omega arith

one_more : (n : ℕ) → 2 ^ n ≡ 2 ^ n - 1 + 1
one_more n = omega (arith, pow_pos n)

pub shifted_twice : (left : Bool) (w : ℕ) (f : Bool) (m a b : ℕ) → shifted left w f (shifted left w f m a) b ≡ shifted left w f m (a + b)
shifted_twice true w f m a b =
    mod_through (m * 2 ^ a + bit f * (2 ^ a - 1)) (bit f * (2 ^ b - 1)) (2 ^ b) (2 ^ w)
    ∙ ap (λ k. k % 2 ^ w)
    (ap (λ k. (m * k + bit f * (2 ^ a - 1)) * 2 ^ b + bit f * (2 ^ b - 1)) (one_more a) ∙ ap (λ k. (m * (2 ^ a - 1 + 1) + bit f * (2 ^ a - 1)) * k + bit f * (2 ^ b - 1)) (one_more b)
    ∙ left_twice (bit f) m (2 ^ a - 1) (2 ^ b - 1)
    ∙ ap (λ k. m * ((2 ^ a - 1 + 1) * (2 ^ b - 1 + 1)) + bit f * k) (sym (less_one (2 ^ a - 1) (2 ^ b - 1)))
    ∙ ap (λ k. m * k + bit f * (k - 1)) (ap (λ k. k * (2 ^ b - 1 + 1)) (sym (one_more a)) ∙ ap (λ k. 2 ^ a * k) (sym (one_more b)) ∙ sym (pow-add 2 a b)))
shifted_twice false w f m a b =
    ap (λ k. k / 2 ^ b) (sym (add-mul-div_left (m + bit f * (2 ^ a - 1) * 2 ^ w) (bit f * (2 ^ b - 1) * 2 ^ w) (pow_pos a)))
    ∙ div-div-eq-div-mul (m + bit f * (2 ^ a - 1) * 2 ^ w + 2 ^ a * (bit f * (2 ^ b - 1) * 2 ^ w)) (2 ^ a) (2 ^ b)
    ∙ ap (λ k. (m + bit f * (2 ^ a - 1) * 2 ^ w + 2 ^ a * (bit f * (2 ^ b - 1) * 2 ^ w)) / k) (sym (pow-add 2 a b))
    ∙ ap (λ k. k / 2 ^ (a + b))
    (ap (λ k. m + bit f * (2 ^ a - 1) * 2 ^ w + k * (bit f * (2 ^ b - 1) * 2 ^ w)) (one_more a)
    ∙ right_twice (bit f) m (2 ^ a - 1) (2 ^ b - 1) (2 ^ w)
    ∙ ap (λ k. m + bit f * k * 2 ^ w) (sym (less_one (2 ^ a - 1) (2 ^ b - 1)) ∙ ap (λ k. k * (2 ^ b - 1 + 1) - 1) (sym (one_more a)) ∙ ap (λ k. 2 ^ a * k - 1) (sym (one_more b)) ∙ ap (λ k. k - 1) (sym (pow-add 2 a b))))

pub shifted_none : (left : Bool) (w : ℕ) (f : Bool) (m : ℕ) → m < 2 ^ w → shifted left w f m 0 ≡ m
shifted_none true w f m below =
    let same : m * 2 ^ 0 + bit f * (2 ^ 0 - 1) ≡ m = omega arith in
    ap (λ k. k % 2 ^ w) same ∙ mod-eq_of_lt below
shifted_none false w f m below =
    let same : m + bit f * (2 ^ 0 - 1) * 2 ^ w ≡ m = omega arith in
    ap (λ k. k / 1) same ∙ omega arith

fill_below : (f : Bool) (w : ℕ) → bit f * (2 ^ w - 1) < 2 ^ w
fill_below true w = omega (arith, pow_pos w)
fill_below false w = omega (arith, pow_pos w)

left_out : (f m w k : ℕ) → f * w + (w + 1) * (m * (k + 1) + f * k) ≡ m * ((w + 1) * (k + 1)) + f * (w * k + w + k)
left_out f m w k = omega arith

right_out : (f : Bool) (m w n : ℕ) → m < w → w ≤ n → (m + bit f * (n - 1) * w) / n ≡ bit f * (w - 1)
right_out true m w n below wide =
    let whole : m + 1 * (n - 1) * w ≡ (w - 1) * n + (n + m - w) = right_whole m w n below wide in
    ap (λ k. k / n) whole ∙ div-mul-add (w - 1) n (n + m - w) (omega arith) ∙ omega arith
  where
    right_whole : (m w n : ℕ) → m < w → w ≤ n → m + 1 * (n - 1) * w ≡ (w - 1) * n + (n + m - w)
    right_whole m w n below wide =
        let more : n - 1 + 1 ≡ n = omega arith in
        let wider : w - 1 + 1 ≡ w = omega arith in
        let a : (n - 1 + 1) * w ≡ n * w = ap (λ k. k * w) more in
        let b : (w - 1 + 1) * n ≡ w * n = ap (λ k. k * n) wider in
        omega (arith, a, b)
right_out false m w n below wide =
    let same : m + 0 * (n - 1) * w ≡ m = omega arith in
    let below_n : m < n = omega arith in
    ap (λ k. k / n) same ∙ div-eq_of_lt below_n ∙ omega arith

pub shifted_out : (left : Bool) (w : ℕ) (f : Bool) (m places : ℕ) → m < 2 ^ w → w ≤ places → shifted left w f m places ≡ bit f * (2 ^ w - 1)
shifted_out true w f m places below out =
    let parts : 2 ^ places ≡ (2 ^ w - 1 + 1) * (2 ^ (places - w) - 1 + 1) =
    ap (λ k. 2 ^ k) (whole_places w places out) ∙ pow-add 2 w (places - w) ∙ ap (λ k. k * 2 ^ (places - w)) (one_more w) ∙ ap (λ k. (2 ^ w - 1 + 1) * k) (one_more (places - w)) in
    let total : bit f * (2 ^ w - 1) + 2 ^ w * (m * (2 ^ (places - w) - 1 + 1) + bit f * (2 ^ (places - w) - 1)) ≡ m * 2 ^ places + bit f * (2 ^ places - 1) =
    ap (λ k. bit f * (2 ^ w - 1) + k * (m * (2 ^ (places - w) - 1 + 1) + bit f * (2 ^ (places - w) - 1))) (one_more w)
    ∙ left_out (bit f) m (2 ^ w - 1) (2 ^ (places - w) - 1)
    ∙ ap (λ k. m * ((2 ^ w - 1 + 1) * (2 ^ (places - w) - 1 + 1)) + bit f * k) (sym (less_one (2 ^ w - 1) (2 ^ (places - w) - 1)))
    ∙ ap (λ k. m * k + bit f * (k - 1)) (sym parts) in
    sym (rest_of (bit f * (2 ^ w - 1)) (2 ^ w) (m * (2 ^ (places - w) - 1 + 1) + bit f * (2 ^ (places - w) - 1)) (m * 2 ^ places + bit f * (2 ^ places - 1)) total (fill_below f w))
  where
    whole_places : (w places : ℕ) → w ≤ places → places ≡ w + (places - w)
    whole_places w places out = omega arith
shifted_out false w f m places below out = right_out f m (2 ^ w) (2 ^ places) below (pow-le-pow_right (omega arith) out)
