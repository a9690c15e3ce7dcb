-- The literal of a right number is fit.
use Rattle.std.proofs.Common.{◌≡◌, ◌≤◌, ◌<◌, ◌+◌, ◌-◌, ◌*◌, ◌%◌, ◌^◌, ◌==◌, ℕ, Bool, true, false, not, List, [], ◌∷◌, ◌++◌, cond, if◌then◌else◌, ◌||◌, ◌&&◌, arith, ap, sym, refl, subst, ◌∙◌, ◌⊎◌, inl, inr, true≢false, length, zero-add, zero-mul, append_assoc, mod-eq_of_lt, pow_pos}
use Rattle.std.proofs.lemmas.Nat.{mod_below}
use Rattle.std.proofs.lemmas.Bool.Decides.{nat_tests}
use Rattle.std.specs.Bool.{⊤}
use Rattle.std.specs.List.{list_all}
use Rattle.lz_base.specs.Names.{is_between}
use Rattle.v_syntax.specs.Numbers.{IsBased, are_digits, is_base, is_binary, is_decimal, is_decimal_byte, is_digit, is_digit_of, is_known_digit_of, is_later_digit, is_octal, is_plain, is_sign, is_unknown_digit, is_white}
use Rattle.v_meaning.specs.declared.literal.Literal.{Literal}
use Rattle.v_meaning.specs.Literals.{based_literal, begins, behind_mark, behind_sign, digit_bits, digit_value, digits_in, is_x, is_z, literal, mask_of, number_behind, number_in, radix_of}
use Rattle.v_numbers.specs.Ones.{ones_where}
use Rattle.v_numbers.specs.Fit.{IsFit}
use Rattle.v_numbers.proofs.Padded.{padded}
use Rattle.v_numbers.proofs.Apart.{AreDigits, IsApart, IsDigit, apart_all, begun, first_alone, or_cases, second_alone, third_alone, x_no_z}

-- ---- one digit

known_two : (d : ℕ) → is_between 48 49 d ≡ true → (is_unknown_digit d ≡ false) × (digit_value d < 2)
known_two d h = grind (arith, nat_tests)

known_eight : (d : ℕ) → is_between 48 55 d ≡ true → (is_unknown_digit d ≡ false) × (digit_value d < 8)
known_eight d h = grind (arith, nat_tests)

known_sixteen : (d : ℕ) → (is_digit d || is_between 97 102 d || is_between 65 70 d) ≡ true → (is_unknown_digit d ≡ false) × (digit_value d < 16)
known_sixteen d h = grind (arith, nat_tests)

-- the digits of the bases 2, 8 and 16
known : (base d : ℕ) → is_decimal base ≡ false → is_known_digit_of base d ≡ true → (is_unknown_digit d ≡ false) × (digit_value d < 2 ^ digit_bits base)
known base d plain h = by_letter (is_binary base) (is_octal base) (is_decimal base) plain h
  where
    by_letter : (two eight ten : Bool) → ten ≡ false →
        (if two then is_between 48 49 d else (if eight then is_between 48 55 d else (if ten then is_digit d else is_digit d || is_between 97 102 d || is_between 65 70 d))) ≡ true →
        (is_unknown_digit d ≡ false) × (digit_value d < 2 ^ (if two then 1 else (if eight then 3 else (if ten then 0 else 4))))
    by_letter true eight ten e h = known_two d h
    by_letter false true ten e h = known_eight d h
    by_letter false false true e h = absurd (true≢false e)
    by_letter false false false e h = known_sixteen d h

known_no_x : (d : ℕ) → is_unknown_digit d ≡ false → is_x d ≡ false
known_no_x d h = grind (arith, nat_tests)

known_no_z : (d : ℕ) → is_unknown_digit d ≡ false → is_z d ≡ false
known_no_z d h = grind (arith, nat_tests)

unknown_z : (d : ℕ) → is_unknown_digit d ≡ true → is_x d ≡ false → is_z d ≡ true
unknown_z d h e = grind (arith, nat_tests)

no_value : (d : ℕ) → is_unknown_digit d ≡ true → digit_value d ≡ 0
no_value d h = rw h refl

same_apart : (a b c v x z : ℕ) → a ≡ v → b ≡ x → c ≡ z → IsApart v x z → IsApart a b c
same_apart a b c v x z p q r h = λ w. rw (p, q, r) (h w)

ones_at : (test : ℕ → Bool) (bits d : ℕ) → test d ≡ true → ones_where test bits d ≡ 2 ^ bits - 1
ones_at test bits d h = rw h refl

none_at : (test : ℕ → Bool) (bits d : ℕ) → test d ≡ false → ones_where test bits d ≡ 0
none_at test bits d h = rw h refl

unknown_is_digit : (bits d : ℕ) → is_unknown_digit d ≡ true → IsDigit bits d
unknown_is_digit bits d h = record {
  fits = subst (λ n. n < 2 ^ bits) (sym (no_value d h)) (pow_pos bits);
  apart = by_x (is_x d) refl;
}
  where
    by_x : (b : Bool) → is_x d ≡ b → IsApart (digit_value d) (ones_where is_x bits d) (ones_where is_z bits d)
    by_x true e = same_apart _ _ _ 0 (2 ^ bits - 1) 0 (no_value d h) (ones_at is_x bits d e) (none_at is_z bits d (x_no_z d e)) (second_alone (2 ^ bits - 1))
    by_x false e = same_apart _ _ _ 0 0 (2 ^ bits - 1) (no_value d h) (none_at is_x bits d e) (ones_at is_z bits d (unknown_z d h e)) (third_alone (2 ^ bits - 1))

known_is_digit : (bits d : ℕ) → is_unknown_digit d ≡ false → digit_value d < 2 ^ bits → IsDigit bits d
known_is_digit bits d h fits = record {
  fits = fits;
  apart = same_apart _ _ _ (digit_value d) 0 0 refl (none_at is_x bits d (known_no_x d h)) (none_at is_z bits d (known_no_z d h)) (first_alone (digit_value d));
}

digit_is : (base d : ℕ) → is_decimal base ≡ false → is_digit_of base d ≡ true → IsDigit (digit_bits base) d
digit_is base d plain h = by_case (or_cases (is_unknown_digit d) (is_known_digit_of base d) h)
  where
    by_case : (is_unknown_digit d ≡ true) ⊎ (is_known_digit_of base d ≡ true) → IsDigit (digit_bits base) d
    by_case (inl e) = unknown_is_digit (digit_bits base) d e
    by_case (inr e) = let k : (is_unknown_digit d ≡ false) × (digit_value d < 2 ^ digit_bits base) = known base d plain e in known_is_digit (digit_bits base) d k.0 k.1

-- ---- the digits among bytes

abbrev counts : ℕ → Bool
counts byte = not (is_white byte) && not (byte == 95)

and_left : (a b : Bool) → (a && b) ≡ true → a ≡ true
and_left true b h = refl
and_left false b h = h

and_right : (a b : Bool) → (a && b) ≡ true → b ≡ true
and_right true b h = h
and_right false b h = absurd (true≢false (sym h))

-- each byte that counts is a digit
abbrev AllCount : ℕ → List ℕ → Type 0
AllCount bits [] = ⊤
AllCount bits (x ∷ xs) = (counts x ≡ true → IsDigit bits x) × AllCount bits xs

digits_of : (bits : ℕ) (xs : List ℕ) → AllCount bits xs → AreDigits bits (digits_in xs)
digits_of bits [] h = tt
digits_of bits (x ∷ xs) h = kept (counts x) (digits_in xs) h.0 (digits_of bits xs h.1)
  where
    kept : (b : Bool) (ys : List ℕ) → (b ≡ true → IsDigit bits x) → AreDigits bits ys → AreDigits bits (cond b (x ∷ ys) ys)
    kept true ys p q = (p refl, q)
    kept false ys p q = q

white_counts_not : (x : ℕ) → is_white x ≡ true → counts x ≡ false
white_counts_not x h = rw h refl

count_space : (bits : ℕ) (space xs : List ℕ) → list_all is_white space ≡ true → AllCount bits xs → AllCount bits (space ++ xs)
count_space bits [] xs h more = more
count_space bits (x ∷ space) xs h more = (
  (λ c. absurd (true≢false (sym c ∙ white_counts_not x (and_left (is_white x) (list_all is_white space) h)))),
  count_space bits space xs (and_right (is_white x) (list_all is_white space) h) more,
)

counts_no_line : (x : ℕ) → counts x ≡ true → (x == 95) ≡ false
counts_no_line x h = grind (arith, nat_tests)

count_later : (base first : ℕ) (xs : List ℕ) → is_decimal base ≡ false → list_all (is_later_digit base first) xs ≡ true → AllCount (digit_bits base) xs
count_later base first [] plain h = tt
count_later base first (x ∷ xs) plain h = (
  λ c. digit_is base x plain (later (x == 95) (is_decimal base) (counts_no_line x c) plain (and_left (is_later_digit base first x) (list_all (is_later_digit base first) xs) h)),
  count_later base first xs plain (and_right (is_later_digit base first x) (list_all (is_later_digit base first) xs) h),
)
  where
    later : (line ten : Bool) → line ≡ false → ten ≡ false → (line || (if ten then is_digit first && is_digit x else is_digit_of base x)) ≡ true → is_digit_of base x ≡ true
    later true ten p q h = absurd (true≢false p)
    later false true p q h = absurd (true≢false q)
    later false false p q h = h

-- ---- the literal of digits

radix_is : (base : ℕ) → is_decimal base ≡ false → radix_of base ≡ 2 ^ digit_bits base
radix_is base h = rw h refl

fit_digits : (width base : ℕ) (signed : Bool) (ds : List ℕ) → 1 ≤ width → width ≤ 128 → is_decimal base ≡ false → AreDigits (digit_bits base) ds →
    IsFit (literal width signed base ds)
fit_digits width base signed ds low high plain digits = record {
  has_bit = low;
  within = high;
  together = subst (λ (n : ℕ). n % 2 ^ width + mask_of is_x (digit_bits base) width ds + mask_of is_z (digit_bits base) width ds < 2 ^ width)
      (ap (λ r. number_in r digit_value ds) (sym (radix_is base plain)))
      (subst (λ (n : ℕ). number_in (2 ^ digit_bits base) digit_value ds % 2 ^ width + mask_of is_x (digit_bits base) width ds + n < 2 ^ width) (padded is_z (digit_bits base) width ds high)
      (subst (λ (n : ℕ). number_in (2 ^ digit_bits base) digit_value ds % 2 ^ width + n + number_behind (if begins is_z ds then 2 ^ 128 - 1 else 0) (2 ^ digit_bits base) (ones_where is_z (digit_bits base)) ds % 2 ^ width < 2 ^ width) (padded is_x (digit_bits base) width ds high)
      (apart_all (digit_bits base) 0 (if begins is_x ds then 2 ^ 128 - 1 else 0) (if begins is_z ds then 2 ^ 128 - 1 else 0) ds (begun (2 ^ 128 - 1) ds) digits width)));
}

-- ---- base 10

decimal_bits : (base : ℕ) → is_decimal base ≡ true → digit_bits base ≡ 0
decimal_bits base h = grind (arith, nat_tests)

no_ones : (test : ℕ → Bool) (ds : List ℕ) → number_behind 0 1 (ones_where test 0) ds ≡ 0
no_ones test [] = refl
no_ones test (d ∷ ds) = ap (λ n. number_behind n 1 (ones_where test 0) ds) (either (test d)) ∙ no_ones test ds
  where
    either : (b : Bool) → 0 * 1 + (if b then 2 ^ 0 - 1 else 0) ≡ 0
    either true = refl
    either false = refl

-- a decimal digit has no bits of its own: one x or z fills the word
decimal_mask : (test : ℕ → Bool) (width : ℕ) (ds : List ℕ) → mask_of test 0 width ds ≡ (if begins test ds then 2 ^ width - 1 else 0)
decimal_mask test width ds =
    ap (λ n. (n + (if begins test ds then 2 ^ width - 2 ^ (0 * length ds) else 0)) % 2 ^ width) (no_ones test ds)
    ∙ ap (λ k. (0 + (if begins test ds then 2 ^ width - 2 ^ k else 0)) % 2 ^ width) (zero-mul (length ds)) ∙ whole (begins test ds)
  where
    whole : (b : Bool) → (0 + (if b then 2 ^ width - 2 ^ 0 else 0)) % 2 ^ width ≡ (if b then 2 ^ width - 1 else 0)
    whole true = let fits : 2 ^ width - 1 < 2 ^ width = omega (arith, pow_pos width) in ap (λ n. n % 2 ^ width) (zero-add (2 ^ width - 1)) ∙ mod-eq_of_lt fits
    whole false = mod-eq_of_lt (pow_pos width)

-- the masks of a number in base 10, and its ones
fit_decimal : (width base : ℕ) (signed : Bool) (ds : List ℕ) → 1 ≤ width → width ≤ 128 → is_decimal base ≡ true →
    (n : ℕ) → number_in (radix_of base) digit_value ds % 2 ^ width ≡ n →
    n + (if begins is_x ds then 2 ^ width - 1 else 0) + (if begins is_z ds then 2 ^ width - 1 else 0) < 2 ^ width → IsFit (literal width signed base ds)
fit_decimal width base signed ds low high ten n is fits = record {
  has_bit = low;
  within = high;
  together = subst (λ (k : ℕ). number_in (radix_of base) digit_value ds % 2 ^ width + mask_of is_x k width ds + mask_of is_z k width ds < 2 ^ width) (sym (decimal_bits base ten))
      (omega (arith, is, decimal_mask is_x width ds, decimal_mask is_z width ds, fits));
}

-- decimal digits
fit_known : (width base first : ℕ) (signed : Bool) (ds : List ℕ) → 1 ≤ width → width ≤ 128 → is_decimal base ≡ true → is_unknown_digit first ≡ false →
    IsFit (literal width signed base (first ∷ ds))
fit_known width base first signed ds low high ten h =
    fit_decimal width base signed (first ∷ ds) low high ten (number_in (radix_of base) digit_value (first ∷ ds) % 2 ^ width) refl
    (rw (known_no_x first h, known_no_z first h) (omega (arith, mod_below (number_in (radix_of base) digit_value (first ∷ ds)) (2 ^ width) (pow_pos width))))

-- one x or z
fit_unknown : (width base first : ℕ) (signed : Bool) → 1 ≤ width → width ≤ 128 → is_decimal base ≡ true → is_unknown_digit first ≡ true →
    IsFit (literal width signed base (first ∷ []))
fit_unknown width base first signed low high ten h =
    fit_decimal width base signed (first ∷ []) low high ten 0
    (ap (λ n. (0 * radix_of base + n) % 2 ^ width) (no_value first h) ∙ nothing (radix_of base)) (by_x (is_x first) (is_z first) (x_no_z first))
  where
    nothing : (r : ℕ) → (0 * r + 0) % 2 ^ width ≡ 0
    nothing r = let e : 0 * r + 0 ≡ 0 = omega arith in ap (λ n. n % 2 ^ width) e ∙ mod-eq_of_lt (pow_pos width)

    by_x : (a b : Bool) → (a ≡ true → b ≡ false) → 0 + (if a then 2 ^ width - 1 else 0) + (if b then 2 ^ width - 1 else 0) < 2 ^ width
    by_x true true p = absurd (true≢false (p refl))
    by_x true false p = omega (arith, pow_pos width)
    by_x false true p = omega (arith, pow_pos width)
    by_x false false p = omega (arith, pow_pos width)

-- ---- what stands behind the letter of a base

no_space : (space xs : List ℕ) → list_all is_white space ≡ true → digits_in (space ++ xs) ≡ digits_in xs
no_space [] xs h = refl
no_space (x ∷ space) xs h =
    ap (λ b. cond b (x ∷ digits_in (space ++ xs)) (digits_in (space ++ xs))) (white_counts_not x (and_left (is_white x) (list_all is_white space) h))
    ∙ no_space space xs (and_right (is_white x) (list_all is_white space) h)

unknown_counts : (x : ℕ) → is_unknown_digit x ≡ true → counts x ≡ true
unknown_counts x h = grind (arith, nat_tests)

digit_counts : (x : ℕ) → is_digit x ≡ true → counts x ≡ true
digit_counts x h = grind (arith, nat_tests)

digit_known : (x : ℕ) → is_digit x ≡ true → is_unknown_digit x ≡ false
digit_known x h = grind (arith, nat_tests)

unknown_no_digit : (x : ℕ) → is_unknown_digit x ≡ true → is_digit x ≡ false
unknown_no_digit x h = grind (arith, nat_tests)

line_counts_not : (x : ℕ) → (x == 95) ≡ true → counts x ≡ false
line_counts_not x h = grind (arith, nat_tests)

first_counts : (x : ℕ) (xs : List ℕ) → counts x ≡ true → digits_in (x ∷ xs) ≡ x ∷ digits_in xs
first_counts x xs h = ap (λ b. cond b (x ∷ digits_in xs) (digits_in xs)) h

-- behind an x or z of base 10 there are underscores alone
lines_alone : (base first : ℕ) (xs : List ℕ) → is_decimal base ≡ true → is_unknown_digit first ≡ true → list_all (is_later_digit base first) xs ≡ true → digits_in xs ≡ []
lines_alone base first [] ten h all = refl
lines_alone base first (x ∷ xs) ten h all =
    ap (λ b. cond b (x ∷ digits_in xs) (digits_in xs))
    (line_counts_not x (line (x == 95) (is_decimal base) (is_digit first) ten (unknown_no_digit first h) (and_left (is_later_digit base first x) (list_all (is_later_digit base first) xs) all)))
    ∙ lines_alone base first xs ten h (and_right (is_later_digit base first x) (list_all (is_later_digit base first) xs) all)
  where
    line : (a b c : Bool) → b ≡ true → c ≡ false → (a || (if b then c && is_digit x else is_digit_of base x)) ≡ true → a ≡ true
    line true b c p q r = refl
    line false true true p q r = absurd (true≢false q)
    line false true false p q r = r
    line false false c p q r = absurd (true≢false (sym p))

no_binary : (base : ℕ) → is_decimal base ≡ true → is_binary base ≡ false
no_binary base h = grind (arith, nat_tests)

no_octal : (base : ℕ) → is_decimal base ≡ true → is_octal base ≡ false
no_octal base h = grind (arith, nat_tests)

fit_ten : (width base first : ℕ) (signed : Bool) (xs : List ℕ) → 1 ≤ width → width ≤ 128 → is_decimal base ≡ true → is_digit_of base first ≡ true →
    list_all (is_later_digit base first) xs ≡ true → IsFit (literal width signed base (digits_in (first ∷ xs)))
fit_ten width base first signed xs low high ten h all = by_case (or_cases (is_unknown_digit first) (is_known_digit_of base first) h)
  where
    letter : (two eight t : Bool) → two ≡ false → eight ≡ false → t ≡ true →
        (if two then is_between 48 49 first else (if eight then is_between 48 55 first else (if t then is_digit first else is_digit first || is_between 97 102 first || is_between 65 70 first))) ≡ true → is_digit first ≡ true
    letter true eight t p q r k = absurd (true≢false p)
    letter false true t p q r k = absurd (true≢false q)
    letter false false true p q r k = k
    letter false false false p q r k = absurd (true≢false (sym r))

    is_ten : (is_known_digit_of base first ≡ true) → is_digit first ≡ true
    is_ten k = letter (is_binary base) (is_octal base) (is_decimal base) (no_binary base ten) (no_octal base ten) ten k

    by_case : (is_unknown_digit first ≡ true) ⊎ (is_known_digit_of base first ≡ true) → IsFit (literal width signed base (digits_in (first ∷ xs)))
    by_case (inl e) =
        subst (λ (ds : List ℕ). IsFit (literal width signed base ds)) (sym (first_counts first xs (unknown_counts first e) ∙ ap (λ ds. first ∷ ds) (lines_alone base first xs ten e all)))
        (fit_unknown width base first signed low high ten e)
    by_case (inr e) =
        subst (λ (ds : List ℕ). IsFit (literal width signed base ds)) (sym (first_counts first xs (digit_counts first (is_ten e))))
        (fit_known width base first signed (digits_in xs) low high ten (digit_known first (is_ten e)))

pub fit_letter : (width base : ℕ) (signed : Bool) (space digits : List ℕ) → 1 ≤ width → width ≤ 128 → list_all is_white space ≡ true → are_digits base digits ≡ true →
    IsFit (literal width signed base (digits_in (space ++ digits)))
fit_letter width base signed space [] low high white h = absurd (true≢false (sym h))
fit_letter width base signed space (first ∷ xs) low high white h = by_base (is_decimal base) refl
  where
    one : is_digit_of base first ≡ true
    one = and_left (is_digit_of base first) (list_all (is_later_digit base first) xs) h

    all : list_all (is_later_digit base first) xs ≡ true
    all = and_right (is_digit_of base first) (list_all (is_later_digit base first) xs) h

    by_base : (b : Bool) → is_decimal base ≡ b → IsFit (literal width signed base (digits_in (space ++ (first ∷ xs))))
    by_base true ten =
        subst (λ (ds : List ℕ). IsFit (literal width signed base ds)) (sym (no_space space (first ∷ xs) white)) (fit_ten width base first signed xs low high ten one all)
    by_base false plain =
        fit_digits width base signed (digits_in (space ++ (first ∷ xs))) low high plain
        (digits_of (digit_bits base) (space ++ (first ∷ xs)) (count_space (digit_bits base) space (first ∷ xs) white ((λ _. digit_is base first plain one), count_later base first xs plain all)))

-- ---- a spelling

base_no_sign : (base : ℕ) → is_base base ≡ true → (base == 115 || base == 83) ≡ false
base_no_sign base h = grind (arith, nat_tests)

fit_based : (width : ℕ) (bytes : List ℕ) → 1 ≤ width → width ≤ 128 → IsBased bytes → IsFit (based_literal width bytes)
fit_based width bytes low high f = subst (λ (bs : List ℕ). IsFit (based_literal width bs)) (sym (f.spelled ∙ append_assoc (39 ∷ f.sign) (f.base ∷ f.space) f.digits)) (by_sign f.sign f.has_sign)
  where
    by_sign : (sign : List ℕ) → is_sign sign ≡ true → IsFit (behind_mark width (sign ++ (f.base ∷ (f.space ++ f.digits))))
    by_sign [] h =
        subst (λ (b : Bool). IsFit (if b then behind_sign width true (f.space ++ f.digits) else behind_sign width false (f.base ∷ (f.space ++ f.digits)))) (sym (base_no_sign f.base f.has_base))
        (fit_letter width f.base false f.space f.digits low high f.has_space f.has_digits)
    by_sign (s ∷ []) h =
        subst (λ (b : Bool). IsFit (if b then behind_sign width true (f.base ∷ (f.space ++ f.digits)) else behind_sign width false (s ∷ (f.base ∷ (f.space ++ f.digits))))) (sym h)
        (fit_letter width f.base true f.space f.digits low high f.has_space f.has_digits)
    by_sign (s ∷ t ∷ more) h = absurd (true≢false (sym h))

fit_plain : (bytes : List ℕ) → is_plain bytes ≡ true → IsFit (literal 32 true 100 (digits_in bytes))
fit_plain [] h = absurd (true≢false (sym h))
fit_plain (first ∷ xs) h =
    let one : is_digit first ≡ true = and_left (is_digit first) (list_all is_decimal_byte xs) h in
    subst (λ (ds : List ℕ). IsFit (literal 32 true 100 ds)) (sym (first_counts first xs (digit_counts first one)))
    (fit_known 32 100 first true (digits_in xs) (omega arith) (omega arith) refl (digit_known first one))

-- the same of a literal that was made of bytes
pub fit_plain_made : (l : Literal) (bytes all : List ℕ) → l ≡ literal 32 true 100 (digits_in bytes) → bytes ≡ all → is_plain all ≡ true → IsFit l
fit_plain_made l bytes all e same h =
    subst (λ (k : Literal). IsFit k) (sym (e ∙ ap (λ (b : List ℕ). literal 32 true 100 (digits_in b)) same)) (fit_plain all h)

pub fit_based_made : (l : Literal) (width : ℕ) (bytes all : List ℕ) → l ≡ based_literal width bytes → bytes ≡ all → 1 ≤ width → width ≤ 128 → IsBased all → IsFit l
fit_based_made l width bytes all e same low high form =
    subst (λ (k : Literal). IsFit k) (sym (e ∙ ap (based_literal width) same)) (fit_based width all low high form)
