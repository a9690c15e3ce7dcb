-- What is read of a hexadecimal number.
use Rattle.std.proofs.Common.{◌≡◌, ℕ, zero, suc, ◌+◌, ◌-◌, ◌*◌, ◌/◌, ◌%◌, ◌^◌, ◌<◌, ◌≤◌, List, [], ◌∷◌, ◌++◌, Bool, true, false, cond, Ok, Err, Result, IfOk, subst, refl, arith, ap, sym, ◌∙◌, length}
use Rattle.std.proofs.lemmas.Nat.{pow-add, shr-shr, shr_below, pow_pos}
use Rattle.std.proofs.Math.Nat.{pow-le-pow_right, lt-div-mul-add, mul-le-mul_right, mul-div_cancel}
use Rattle.std.proofs.lemmas.Bool.Decides.{nat_tests}
use Rattle.std.proofs.Common.{lt-ltb}
use Rattle.lz_lines.specs.Fields.{IsHex, field, hex, hex_digits, hex_digit}
use Rattle.lz_lines.specs.Digits.{Tells, is_hex, hex_value, more_hex, is_top, hex_at}
use Rattle.lz_lines.specs.Forms.{Takes, Breaks, Reads, Anything}
use Rattle.lz_lines.proofs.Forms.{after_byte, after_breaks, after_reads, breaks_now}
use Rattle.lz_lines.specs.declared.reading.Broken.{Broken}

power_grows : (i j : ℕ) → i ≤ j → 2 ^ i ≤ 2 ^ j
power_grows i j h = pow-le-pow_right (omega arith) h

-- one digit more takes four bits of what is left
pub room_step : (count value digit : ℕ) → 0 < count → count ≤ 32 → value < 2 ^ (128 - 4 * count) → digit < 16 → value * 16 + digit < 2 ^ (128 - 4 * (count - 1))
room_step count value digit some few room small =
    let e : 128 - 4 * (count - 1) ≡ (128 - 4 * count) + 4 = omega arith in
    rw e (omega (arith, pow-add 2 (128 - 4 * count) 4))

-- what fits the bits that are left fits a word
pub room_fits : (count value digit : ℕ) → 0 < count → count ≤ 32 → value < 2 ^ (128 - 4 * count) → digit < 16 → value * 16 + digit < 2 ^ 128
room_fits count value digit some few room small =
    let most : 2 ^ (128 - 4 * (count - 1)) ≤ 2 ^ 128 = power_grows (128 - 4 * (count - 1)) 128 (omega arith) in
    omega (arith, room_step count value digit some few room small, most)

-- a first digit fits the bits that the others leave
pub first_room : (width digit : ℕ) → 1 ≤ width → width ≤ 128 → digit < 16 → digit < 2 ^ (128 - 4 * ((width + 3) / 4 - 1))
first_room width digit low high small =
    let most : 2 ^ 4 ≤ 2 ^ (128 - 4 * ((width + 3) / 4 - 1)) = power_grows 4 (128 - 4 * ((width + 3) / 4 - 1)) (omega arith) in
    omega (arith, most)

-- a digit is read as itself
digit_is : (d : ℕ) → d < 16 → (is_hex (hex_digit d) ≡ true) × (hex_value (hex_digit d) ≡ d)
digit_is d h = grind (arith, nat_tests)

digit_was : (b : ℕ) → is_hex b ≡ true → (hex_value b < 16) × (hex_digit (hex_value b) ≡ b)
digit_was b h = grind (arith, nat_tests)

-- the most significant digit stands first
pub front : (k n : ℕ) → hex_digits (suc k) n ≡ hex_digit (n / 2 ^ (4 * k) % 16) ∷ hex_digits k n
front zero n = let e : n / 2 ^ 0 % 16 ≡ n % 16 = omega arith in rw e refl
front (suc k) n =
    let e : n / 16 / 2 ^ (4 * k) ≡ n / 2 ^ (4 * suc k) = shr-shr n 4 (4 * k) ∙ ap (λ j. n / 2 ^ j) (omega arith) in
    ap (λ l. l ++ hex_digit (n % 16) ∷ []) (front k (n / 16) ∙ ap (λ m. hex_digit (m % 16) ∷ hex_digits k (n / 16)) e)

-- the digits that are spelled are read, behind the bits that stand before them
more_again : (k n high : ℕ) (rest : List ℕ) → n / 2 ^ (4 * k) ≡ high → more_hex k high (hex_digits k n ++ rest) ≡ Ok (n, rest)
more_again zero n high rest h = let e : high ≡ n = omega arith in ap (λ m. Ok (m, rest)) e
more_again (suc k) n high rest h =
    let top = n / 2 ^ (4 * k) in
    let small : top % 16 < 16 = omega arith in
    let is = digit_is (top % 16) small in
    let tests = is.0 in
    let reads = is.1 in
    let over : top / 16 ≡ high = shr-shr n (4 * k) 4 ∙ ap (λ j. n / 2 ^ j) (omega arith) ∙ h in
    let e : high * 16 + top % 16 ≡ top = omega arith in
    ap (λ l. more_hex (suc k) high (l ++ rest)) (front k n) ∙ rw (tests, reads, e) (more_again k n top rest refl)

-- the digits that are read are spelled so
record Spells (k high n : ℕ) (bytes rest : List ℕ) : Type 0 where
  top : n / 2 ^ (4 * k) ≡ high
  split : bytes ≡ hex_digits k n ++ rest

more_takes : (k high n : ℕ) (bytes rest : List ℕ) → more_hex k high bytes ≡ Ok (n, rest) → Spells k high n bytes rest
more_takes zero high n bytes rest h =
    let e : (high, bytes) ≡ (n, rest) = cc in
    record { top = omega (arith, ap (λ (r : ℕ × List ℕ). r.0) e); split = ap (λ (r : ℕ × List ℕ). r.1) e }
more_takes (suc k) high n [] rest h = cc
more_takes (suc k) high n (b ∷ bs) rest h = at (more_takes k (high * 16 + hex_value b) n bs rest) (is_hex b) refl h
  where
    at : (more_hex k (high * 16 + hex_value b) bs ≡ Ok (n, rest) → Spells k (high * 16 + hex_value b) n bs rest)
        → (t : Bool) → is_hex b ≡ t → cond t (more_hex k (high * 16 + hex_value b) bs) (Err (length (b ∷ bs))) ≡ Ok (n, rest) → Spells (suc k) high n (b ∷ bs) rest
    at more false t e = cc
    at more true t e =
        let was = digit_was b t in
        let small = was.0 in
        let back = was.1 in
        let m = more e in
        let over : n / 2 ^ (4 * suc k) ≡ high = ap (λ j. n / 2 ^ j) (omega arith) ∙ sym (shr-shr n (4 * k) 4) ∙ ap (λ x. x / 16) m.top ∙ omega arith in
        let low : n / 2 ^ (4 * k) % 16 ≡ hex_value b = ap (λ x. x % 16) m.top ∙ omega arith in
        record {
          top = over;
          split = ap (λ l. b ∷ l) m.split ∙ ap (λ x. x ∷ hex_digits k n ++ rest) (sym back ∙ ap hex_digit (sym low)) ∙ ap (λ l. l ++ rest) (sym (front k n));
        }

-- the test of a first digit
top_was : (width b : ℕ) → is_top width b ≡ true → (is_hex b ≡ true) × (hex_value b < 2 ^ ((width + 3) % 4 + 1))
top_was width b h = grind (arith, nat_tests)

below_from : (n j k : ℕ) → n / 2 ^ j < 2 ^ k → n < 2 ^ (k + j)
below_from n j k h =
    let a = lt-div-mul-add {a = n} {b = 2 ^ j} (pow_pos j) in
    let b = mul-le-mul_right {m = n / 2 ^ j + 1} {n = 2 ^ k} (2 ^ j) (omega arith) in
    omega (arith, a, b, pow-add 2 k j)

-- the bits of the first digit, and of the others
bits : (width : ℕ) → 1 ≤ width → 2 ^ width ≡ 2 ^ ((width + 3) % 4 + 1 + 4 * ((width + 3) / 4 - 1))
bits width low = ap (λ w. 2 ^ w) (omega arith)

digits_suc : (width n : ℕ) → 1 ≤ width → hex width n ≡ hex_digits (suc ((width + 3) / 4 - 1)) n
digits_suc width n low = let e : (width + 3) / 4 ≡ suc ((width + 3) / 4 - 1) = omega arith in ap (λ k. hex_digits k n) e

top_is : (width d : ℕ) → is_hex (hex_digit d) ≡ true → hex_value (hex_digit d) ≡ d → d < 2 ^ ((width + 3) % 4 + 1) → is_top width (hex_digit d) ≡ true
top_is width d a b c = rw (a, b) (lt-ltb d (2 ^ ((width + 3) % 4 + 1)) c)

-- a number that is spelled is read
hex_again : (width n : ℕ) (rest : List ℕ) → 1 ≤ width → n < 2 ^ width → hex_at width (hex width n ++ rest) ≡ Ok (n, rest)
hex_again width n rest low fits =
    let k = (width + 3) / 4 - 1 in
    let top = n / 2 ^ (4 * k) in
    let below : top < 2 ^ ((width + 3) % 4 + 1) = shr_below n ((width + 3) % 4 + 1) (4 * k) (rw (← (bits width low)) fits) in
    let most : 2 ^ ((width + 3) % 4 + 1) ≤ 2 ^ 4 = power_grows ((width + 3) % 4 + 1) 4 (omega arith) in
    let small : top < 16 = omega (arith, below, most) in
    let same : top % 16 ≡ top = omega arith in
    let is = digit_is top small in
    let is_digit = is.0 in
    let reads = is.1 in
    let tests : is_top width (hex_digit top) ≡ true = top_is width top is_digit reads below in
    ap (λ l. hex_at width (l ++ rest)) (digits_suc width n low ∙ front k n ∙ ap (λ d. hex_digit d ∷ hex_digits k n) same) ∙ rw (tests, reads) (more_again k n top rest refl)

-- what is read is spelled so
record Found (width n : ℕ) (bytes rest : List ℕ) : Type 0 where
  fits : n < 2 ^ width
  split : bytes ≡ hex width n ++ rest

hex_takes : (width n : ℕ) (bytes rest : List ℕ) → 1 ≤ width → hex_at width bytes ≡ Ok (n, rest) → Found width n bytes rest
hex_takes width n [] rest low h = cc
hex_takes width n (b ∷ bs) rest low h = at (is_top width b) refl h
  where
    at : (t : Bool) → is_top width b ≡ t → cond t (more_hex ((width + 3) / 4 - 1) (hex_value b) bs) (Err (length (b ∷ bs))) ≡ Ok (n, rest) → Found width n (b ∷ bs) rest
    at false t e = cc
    at true t e =
        let k = (width + 3) / 4 - 1 in
        let was = top_was width b t in
        let back = (digit_was b was.0).1 in
        let small = (digit_was b was.0).0 in
        let m = more_takes k (hex_value b) n bs rest e in
        let low_bits : n / 2 ^ (4 * k) % 16 ≡ hex_value b = ap (λ x. x % 16) m.top ∙ omega arith in
        record {
          fits = rw (bits width low) (below_from n (4 * k) ((width + 3) % 4 + 1) (omega (arith, m.top, was.1)));
          split = ap (λ l. b ∷ l) m.split ∙ ap (λ x. x ∷ hex_digits k n ++ rest) (sym back ∙ ap hex_digit (sym low_bits)) ∙ ap (λ l. l ++ rest) (sym (front k n) ∙ sym (digits_suc width n low));
        }

-- the same of a function's answer, behind the blank
pub hex_found : {X : Type 0} (value : X → ℕ) (after : X → List ℕ) (result : Result X Broken) (width : ℕ) (whole bytes : List ℕ) → 1 ≤ width → whole ≡ 32 ∷ bytes
    → Tells (λ x. (value x, after x)) result (hex_at width bytes) → IfOk result (λ x. (value x < 2 ^ width) × (whole ≡ field (hex width (value x)) ++ after x))
hex_found value after (Ok x) width whole bytes low blank h =
    let t = hex_takes width (value x) bytes (after x) low h in
    (t.fits, blank ∙ ap (λ l. 32 ∷ l) t.split)
hex_found value after (Err e) width whole bytes low blank h = tt

-- the digits of a number behind the bits that stand before them
abbrev IsDigits : ℕ → ℕ → ℕ → List ℕ → Type 0
IsDigits k high n text = (n / 2 ^ (4 * k) ≡ high) × (text ≡ hex_digits k n)

some_digits : (k high : ℕ) → IsDigits k high (high * 2 ^ (4 * k)) (hex_digits k (high * 2 ^ (4 * k)))
some_digits k high = (mul-div_cancel high (pow_pos (4 * k)), refl)

not_empty : (k high n : ℕ) → IsDigits (suc k) high n [] → ⊥
not_empty k high n is = let first = is.1 ∙ front k n in cc (first)

-- a digit stands first
no_digit : (k high b : ℕ) → is_hex b ≡ false → (n : ℕ) (more : List ℕ) → IsDigits (suc k) high n (b ∷ more) → ⊥
no_digit k high b t n more is =
    let first : b ∷ more ≡ hex_digit (n / 2 ^ (4 * k) % 16) ∷ hex_digits k n = is.1 ∙ front k n in
    let same : b ≡ hex_digit (n / 2 ^ (4 * k) % 16) = cc in
    let digit = (digit_is (n / 2 ^ (4 * k) % 16) (omega arith)).0 in
    let no : false ≡ true = sym t ∙ ap is_hex same ∙ digit in
    cc

-- the bits of a first digit, and those behind it
digit_on : (k high b : ℕ) → is_hex b ≡ true → (n : ℕ) (t : List ℕ) → IsDigits k (high * 16 + hex_value b) n t → IsDigits (suc k) high n (b ∷ t)
digit_on k high b h n t is =
    let was = digit_was b h in
    let small = was.0 in
    let over : n / 2 ^ (4 * suc k) ≡ high = ap (λ j. n / 2 ^ j) (omega arith) ∙ sym (shr-shr n (4 * k) 4) ∙ ap (λ x. x / 16) is.0 ∙ omega arith in
    let low : n / 2 ^ (4 * k) % 16 ≡ hex_value b = ap (λ x. x % 16) is.0 ∙ omega arith in
    (over, ap (λ l. b ∷ l) is.1 ∙ ap (λ x. x ∷ hex_digits k n) (sym was.1 ∙ ap hex_digit (sym low)) ∙ sym (front k n))

digit_off : (k high b n : ℕ) (t : List ℕ) → IsDigits (suc k) high n (b ∷ t) → IsDigits k (high * 16 + hex_value b) n t
digit_off k high b n t is =
    let top = n / 2 ^ (4 * k) in
    let first : b ∷ t ≡ hex_digit (top % 16) ∷ hex_digits k n = is.1 ∙ front k n in
    let same : b ≡ hex_digit (top % 16) = cc in
    let value : hex_value b ≡ top % 16 = ap hex_value same ∙ (digit_is (top % 16) (omega arith)).1 in
    let over : top / 16 ≡ high = shr-shr n (4 * k) 4 ∙ ap (λ j. n / 2 ^ j) (omega arith) ∙ is.0 in
    (omega (arith, over, value), cc (first))

-- the first digit of a number of so many bits
top_small : (width n : ℕ) → 1 ≤ width → n < 2 ^ width → (n / 2 ^ (4 * ((width + 3) / 4 - 1)) < 16) × (n / 2 ^ (4 * ((width + 3) / 4 - 1)) < 2 ^ ((width + 3) % 4 + 1))
top_small width n low fits =
    let below = shr_below n ((width + 3) % 4 + 1) (4 * ((width + 3) / 4 - 1)) (rw (← (bits width low)) fits) in
    let most : 2 ^ ((width + 3) % 4 + 1) ≤ 2 ^ 4 = power_grows ((width + 3) % 4 + 1) 4 (omega arith) in
    (omega (arith, below, most), below)

first_of : (width b n : ℕ) (t : List ℕ) → 1 ≤ width → n < 2 ^ width → b ∷ t ≡ hex width n → (b ≡ hex_digit (n / 2 ^ (4 * ((width + 3) / 4 - 1)))) × (t ≡ hex_digits ((width + 3) / 4 - 1) n)
first_of width b n t low fits is =
    let k = (width + 3) / 4 - 1 in
    let small = (top_small width n low fits).0 in
    let same : n / 2 ^ (4 * k) % 16 ≡ n / 2 ^ (4 * k) = omega arith in
    let first : b ∷ t ≡ hex_digit (n / 2 ^ (4 * k)) ∷ hex_digits k n = is ∙ digits_suc width n low ∙ front k n ∙ ap (λ d. hex_digit d ∷ hex_digits k n) same in
    (cc (first), cc (first))

-- a number, without its blank
abbrev IsHexText : ℕ → ℕ → List ℕ → Type 0
IsHexText width n text = (n < 2 ^ width) × (text ≡ hex width n)

some_text : (width n : ℕ) → 1 ≤ width → IsHexText width n [] → ⊥
some_text width n low is = let first = is.1 ∙ digits_suc width n low ∙ front ((width + 3) / 4 - 1) n in cc (first)

no_top : (width b : ℕ) → 1 ≤ width → is_top width b ≡ false → (n : ℕ) (more : List ℕ) → IsHexText width n (b ∷ more) → ⊥
no_top width b low t n more is =
    let first = first_of width b n more low is.0 is.1 in
    let small = top_small width n low is.0 in
    let digit = digit_is (n / 2 ^ (4 * ((width + 3) / 4 - 1))) small.0 in
    let no : false ≡ true = sym t ∙ ap (is_top width) first.0 ∙ top_is width _ digit.0 digit.1 small.1 in
    cc

top_on : (width b : ℕ) → 1 ≤ width → is_top width b ≡ true → (n : ℕ) (t : List ℕ) → IsDigits ((width + 3) / 4 - 1) (hex_value b) n t → IsHexText width n (b ∷ t)
top_on width b low h n t is =
    let k = (width + 3) / 4 - 1 in
    let was = top_was width b h in
    let back = (digit_was b was.0).1 in
    let small = (digit_was b was.0).0 in
    let same : n / 2 ^ (4 * k) % 16 ≡ hex_value b = ap (λ x. x % 16) is.0 ∙ omega arith in (
      rw (bits width low) (below_from n (4 * k) ((width + 3) % 4 + 1) (omega (arith, is.0, was.1))),
      ap (λ l. b ∷ l) is.1 ∙ ap (λ x. x ∷ hex_digits k n) (sym back ∙ ap hex_digit (sym same)) ∙ sym (front k n) ∙ sym (digits_suc width n low),
    )

top_off : (width b : ℕ) → 1 ≤ width → (n : ℕ) (t : List ℕ) → IsHexText width n (b ∷ t) → IsDigits ((width + 3) / 4 - 1) (hex_value b) n t
top_off width b low n t is =
    let first = first_of width b n t low is.0 is.1 in
    let digit = digit_is (n / 2 ^ (4 * ((width + 3) / 4 - 1))) (top_small width n low is.0).0 in
    (sym (ap hex_value first.0 ∙ digit.1), first.1)

-- where a digit is none, no number goes on
more_breaks : (k high left : ℕ) (bytes : List ℕ) → more_hex k high bytes ≡ Err left → Breaks (IsDigits k high) Anything bytes left
more_breaks zero high left bytes h = cc
more_breaks (suc k) high left [] h =
    let none : 0 ≡ left = cc in
    subst (λ l. Breaks (IsDigits (suc k) high) Anything [] l) none (breaks_now (IsDigits (suc k) high) Anything [] (high * 2 ^ (4 * suc k)) _ (some_digits (suc k) high) (not_empty k high) tt)
more_breaks (suc k) high left (b ∷ bs) h = at (more_breaks k (high * 16 + hex_value b) left bs) (is_hex b) refl h
  where
    at : (more_hex k (high * 16 + hex_value b) bs ≡ Err left → Breaks (IsDigits k (high * 16 + hex_value b)) Anything bs left)
        → (t : Bool) → is_hex b ≡ t → cond t (more_hex k (high * 16 + hex_value b) bs) (Err (length (b ∷ bs))) ≡ Err left → Breaks (IsDigits (suc k) high) Anything (b ∷ bs) left
    at more false t e =
        let all : length (b ∷ bs) ≡ left = cc in
        subst (λ l. Breaks (IsDigits (suc k) high) Anything (b ∷ bs) l) all
        (breaks_now (IsDigits (suc k) high) Anything (b ∷ bs) (high * 2 ^ (4 * suc k)) _ (some_digits (suc k) high) (not_empty k high) (no_digit k high b t))
    at more true t e =
        after_breaks (after_byte (IsDigits (suc k) high) (IsDigits k (high * 16 + hex_value b)) Anything b (b ∷ bs) bs refl (not_empty k high) (digit_on k high b t) (digit_off k high b)) (more e)

-- where a number is refused, none goes on
hex_breaks : (width left : ℕ) (bytes : List ℕ) → 1 ≤ width → hex_at width bytes ≡ Err left → Breaks (IsHexText width) Anything bytes left
hex_breaks width left [] low h =
    let none : 0 ≡ left = cc in
    subst (λ l. Breaks (IsHexText width) Anything [] l) none (breaks_now (IsHexText width) Anything [] 0 (hex width 0) (pow_pos width, refl) (λ n is. some_text width n low is) tt)
hex_breaks width left (b ∷ bs) low h = at (is_top width b) refl h
  where
    at : (t : Bool) → is_top width b ≡ t → cond t (more_hex ((width + 3) / 4 - 1) (hex_value b) bs) (Err (length (b ∷ bs))) ≡ Err left → Breaks (IsHexText width) Anything (b ∷ bs) left
    at false t e =
        let all : length (b ∷ bs) ≡ left = cc in
        subst (λ l. Breaks (IsHexText width) Anything (b ∷ bs) l) all
        (breaks_now (IsHexText width) Anything (b ∷ bs) 0 (hex width 0) (pow_pos width, refl) (λ n is. some_text width n low is) (no_top width b low t))
    at true t e =
        after_breaks
        (after_byte (IsHexText width) (IsDigits ((width + 3) / 4 - 1) (hex_value b)) Anything b (b ∷ bs) bs refl (λ n is. some_text width n low is) (top_on width b low t) (top_off width b low))
        (more_breaks ((width + 3) / 4 - 1) (hex_value b) left bs e)

-- what a number is taken for
hex_taken : (width n : ℕ) (bytes rest : List ℕ) → 1 ≤ width → hex_at width bytes ≡ Ok (n, rest) → Takes (IsHexText width) Anything bytes n rest
hex_taken width n bytes rest low h =
    let t = hex_takes width n bytes rest low h in
    record {
      front = hex width n;
      is = (t.fits, refl);
      split = t.split;
      only = λ u text behind other is any alike e.
          let here = hex_again width n other low t.fits in
          let there = hex_again width u behind low is.0 in
          let both : Ok (u, behind) ≡ Ok (n, other) = sym there ∙ ap (λ l. hex_at width (l ++ behind)) (sym is.1) ∙ ap (hex_at width) (sym e) ∙ here in
          let pair : (u, behind) ≡ (n, other) = cc in
          (ap (λ (r : ℕ × List ℕ). r.0) pair, sym (ap (λ (r : ℕ × List ℕ). r.1) pair));
    }

hex_text_reads : {X : Type 0} (value : X → ℕ) (after : X → List ℕ) (result : Result X Broken) (width : ℕ) (bytes : List ℕ) → 1 ≤ width
    → Tells (λ x. (value x, after x)) result (hex_at width bytes) → Reads (IsHexText width) Anything value after bytes result
hex_text_reads value after (Ok x) width bytes low h = hex_taken width (value x) bytes (after x) low h
hex_text_reads value after (Err e) width bytes low h = hex_breaks width e.left bytes low h

-- and behind the blank
pub hex_reads : {X : Type 0} (value : X → ℕ) (after : X → List ℕ) (result : Result X Broken) (width : ℕ) (whole bytes : List ℕ) → 1 ≤ width → whole ≡ 32 ∷ bytes
    → Tells (λ x. (value x, after x)) result (hex_at width bytes) → Reads (IsHex width) Anything value after whole result
hex_reads value after result width whole bytes low blank h =
    after_reads value after result
    (after_byte (IsHex width) (IsHexText width) Anything 32 whole bytes blank (λ v is. cc (is.1)) (λ v text is. (is.0, ap (λ l. 32 ∷ l) is.1)) (λ v text is. (is.0, cc (is.1))))
    (hex_text_reads value after result width bytes low h)
