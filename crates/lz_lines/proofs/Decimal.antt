-- What is read of a decimal number.
use Rattle.std.proofs.Common.{◌≡◌, inl, inr, ℕ, ◌+◌, ◌-◌, ◌*◌, ◌/◌, ◌%◌, ◌^◌, ◌<◌, ◌≤◌, List, [], ◌∷◌, ◌++◌, Bool, true, false, cond, Ok, Err, Result, IfOk, subst, append-nil, refl, arith, ap, sym, ◌∙◌, append_assoc, length}
use Rattle.std.specs.Fmt.{decimal}
use Rattle.std.proofs.lemmas.Fmt.{decimal_by_steps_wide, decimal_step_wide, decimal_digit}
use Rattle.std.proofs.lemmas.Bool.Decides.{nat_tests}
use Rattle.lz_lines.specs.Fields.{number, IsNumber}
use Rattle.lz_lines.specs.Readers.{is_digit, BeginsWithout}
use Rattle.lz_lines.specs.Digits.{Tells, goes_on, more_digits, is_first, decimal_at}
use Rattle.lz_lines.specs.Forms.{Takes, Breaks, Reads, Parted, IsParted, GoAlike}
use Rattle.lz_lines.proofs.Forms.{after_byte, after_reads, breaks_now, NoneBegins}
use Rattle.lz_lines.specs.declared.reading.Broken.{Broken}

-- the test of a first digit, both ways
first_is : (low high d : ℕ) → d < 10 → low ≤ d → d ≤ high → is_first low high (48 + d) ≡ true
first_is low high d h lo hi = grind (arith, nat_tests)

first_was : (low high b : ℕ) → is_first low high b ≡ true → (48 ≤ b) × (b ≤ 57) × (low ≤ b - 48) × (b - 48 ≤ high)
first_was low high b h = grind (arith, nat_tests)

-- the test of a further digit, both ways
on_is : (high n d : ℕ) → d < 10 → 0 < n → n * 10 + d ≤ high → goes_on high n (48 + d) ≡ true
on_is high n d h some hi = grind (arith, nat_tests)

on_was : (high n b : ℕ) → goes_on high n b ≡ true → (48 ≤ b) × (b ≤ 57) × (0 < n) × (n * 10 + (b - 48) ≤ high)
on_was high n b h = grind (arith, nat_tests)

on_ends : (high n b : ℕ) → is_digit b ≡ false → goes_on high n b ≡ false
on_ends high n b h = grind (arith, nat_tests)

-- a digit that goes on is taken
one_more : (high m : ℕ) (rest : List ℕ) → 10 ≤ m → m ≤ high → more_digits high (m / 10) ((48 + m % 10) ∷ rest) ≡ more_digits high m rest
one_more high m rest l hi =
    let on : goes_on high (m / 10) (48 + m % 10) ≡ true = on_is high (m / 10) (m % 10) (omega arith) (omega arith) (omega arith) in
    let e : m / 10 * 10 + (48 + m % 10 - 48) ≡ m = omega arith in
    rw (on, e) refl

-- the digits of a number are taken first
front_taken : (low high n : ℕ) → n < 10 ^ 64 → low ≤ 1 → low ≤ n → n ≤ high → (rest : List ℕ) → decimal_at low high (decimal n ++ rest) ≡ Ok (more_digits high n rest)
front_taken low high n small one lo hi rest =
    decimal_by_steps_wide (λ m ds. low ≤ m → m ≤ high → (rest : List ℕ) → decimal_at low high (ds ++ rest) ≡ Ok (more_digits high m rest)) base step n small lo hi rest
  where
    base : (m : ℕ) → m < 10 → low ≤ m → m ≤ high → (rest : List ℕ) → decimal_at low high (((48 + m) ∷ []) ++ rest) ≡ Ok (more_digits high m rest)
    base m l a b rest =
        let e : 48 + m - 48 ≡ m = omega arith in
        rw (first_is low high m l a b, e) refl

    step : (m : ℕ) (ds : List ℕ) → 10 ≤ m → (low ≤ m / 10 → m / 10 ≤ high → (rest : List ℕ) → decimal_at low high (ds ++ rest) ≡ Ok (more_digits high (m / 10) rest))
        → low ≤ m → m ≤ high → (rest : List ℕ) → decimal_at low high ((ds ++ ((48 + m % 10) ∷ [])) ++ rest) ≡ Ok (more_digits high m rest)
    step m ds l h a b rest =
        ap (decimal_at low high) (append_assoc ds ((48 + m % 10) ∷ []) rest) ∙ h (omega arith) (omega arith) ((48 + m % 10) ∷ rest) ∙ ap Ok (one_more high m rest l b)

-- a number ends where no digit follows
ends : (high n : ℕ) (rest : List ℕ) → BeginsWithout is_digit rest → more_digits high n rest ≡ (n, rest)
ends high n [] h = refl
ends high n (b ∷ bs) h = rw (on_ends high n b h) refl

-- a number that is spelled is read
pub decimal_again : (low high n : ℕ) (rest : List ℕ) → high < 2 ^ 128 → low ≤ 1 → low ≤ n → n ≤ high → BeginsWithout is_digit rest → decimal_at low high (decimal n ++ rest) ≡ Ok (n, rest)
decimal_again low high n rest fits one lo hi h = front_taken low high n (omega arith) one lo hi rest ∙ ap Ok (ends high n rest h)

-- A number stands in front of the digits; this number and rest were read with them.
record Splits (high n : ℕ) (bytes : List ℕ) (read : ℕ × List ℕ) : Type 0 where
  most : read.0 ≤ high
  least : n ≤ read.0
  split : decimal n ++ bytes ≡ decimal read.0 ++ read.1

more_splits : (high n : ℕ) (bs : List ℕ) → high < 2 ^ 128 → n ≤ high → Splits high n bs (more_digits high n bs)
more_splits high n [] fits hi = record { most = hi; least = omega arith; split = refl }
more_splits high n (b ∷ bs) fits hi = at (more_splits high (n * 10 + (b - 48)) bs fits) (goes_on high n b) refl
  where
    at : (n * 10 + (b - 48) ≤ high → Splits high (n * 10 + (b - 48)) bs (more_digits high (n * 10 + (b - 48)) bs))
        → (t : Bool) → goes_on high n b ≡ t → Splits high n (b ∷ bs) (cond t (more_digits high (n * 10 + (b - 48)) bs) (n, b ∷ bs))
    at more false e = record { most = hi; least = omega arith; split = refl }
    at more true e =
        let was = on_was high n b e in
        let rest = more was.3 in
        let front : (n * 10 + (b - 48)) / 10 ≡ n = omega (arith, was) in
        let last : 48 + (n * 10 + (b - 48)) % 10 ≡ b = omega (arith, was) in
        let step : decimal (n * 10 + (b - 48)) ≡ decimal n ++ b ∷ [] =
        decimal_step_wide (n * 10 + (b - 48)) (omega (arith, was)) (omega (arith, was)) ∙ ap (λ k. decimal k ++ (48 + (n * 10 + (b - 48)) % 10) ∷ []) front ∙ ap (λ k. decimal n ++ k ∷ []) last in
        record {
          most = rest.most;
          least = omega (arith, rest.least);
          split = sym (append_assoc (decimal n) (b ∷ []) bs) ∙ ap (λ k. k ++ bs) (sym step) ∙ rest.split;
        }

-- what is read is spelled so
pub record Found (low high : ℕ) (bytes : List ℕ) (n : ℕ) (rest : List ℕ) : Type 0 where
  pub least : low ≤ n
  pub most : n ≤ high
  pub split : bytes ≡ decimal n ++ rest

pub decimal_takes : (low high : ℕ) (bytes : List ℕ) (n : ℕ) (rest : List ℕ) → high < 2 ^ 128 → decimal_at low high bytes ≡ Ok (n, rest) → Found low high bytes n rest
decimal_takes low high [] n rest fits e = cc
decimal_takes low high (b ∷ bs) n rest fits e = at (is_first low high b) refl e
  where
    at : (t : Bool) → is_first low high b ≡ t → cond t (Ok (more_digits high (b - 48) bs)) (Err (length (b ∷ bs))) ≡ Ok (n, rest) → Found low high (b ∷ bs) n rest
    at false t e = cc
    at true t e =
        let was = first_was low high b t in
        let is : more_digits high (b - 48) bs ≡ (n, rest) = cc in
        let more = more_splits high (b - 48) bs fits was.3 in
        let back : 48 + (b - 48) ≡ b = omega (arith, was) in
        let digit : decimal (b - 48) ≡ b ∷ [] = decimal_digit (b - 48) (omega (arith, was)) ∙ ap (λ k. k ∷ []) back in
        record {
          least = omega (arith, was, more.least, ap (λ (r : ℕ × List ℕ). r.0) is);
          most = omega (arith, more.most, ap (λ (r : ℕ × List ℕ). r.0) is);
          split = ap (λ k. k ++ bs) (sym digit) ∙ more.split ∙ ap (λ (r : ℕ × List ℕ). decimal r.0 ++ r.1) is;
        }

-- no further digit belongs to the number: it would stand behind a 0, or make the number greater than its bound
ended : (high n : ℕ) (bs : List ℕ) → (rest : List ℕ) → GoAlike (more_digits high n bs).1 rest → more_digits high (more_digits high n bs).0 rest ≡ ((more_digits high n bs).0, rest)
ended high n [] rest alike = rw alike refl
ended high n (b ∷ bs) rest alike = at (ended high (n * 10 + (b - 48)) bs rest) (goes_on high n b) refl alike
  where
    at : (GoAlike (more_digits high (n * 10 + (b - 48)) bs).1 rest → more_digits high (more_digits high (n * 10 + (b - 48)) bs).0 rest ≡ ((more_digits high (n * 10 + (b - 48)) bs).0, rest))
        → (t : Bool) → goes_on high n b ≡ t → GoAlike (cond t (more_digits high (n * 10 + (b - 48)) bs) (n, b ∷ bs)).1 rest
        → more_digits high (cond t (more_digits high (n * 10 + (b - 48)) bs) (n, b ∷ bs)).0 rest ≡ ((cond t (more_digits high (n * 10 + (b - 48)) bs) (n, b ∷ bs)).0, rest)
    at more true e alike = more alike
    at more false e alike = rw (alike.1, e) refl

decimal_ended : (low high : ℕ) (bytes : List ℕ) (n : ℕ) (rest : List ℕ) → decimal_at low high bytes ≡ Ok (n, rest) → (other : List ℕ) → GoAlike rest other → more_digits high n other ≡ (n, other)
decimal_ended low high [] n rest e = cc
decimal_ended low high (b ∷ bs) n rest e = at (is_first low high b) e
  where
    at : (t : Bool) → cond t (Ok (more_digits high (b - 48) bs)) (Err (length (b ∷ bs))) ≡ Ok (n, rest) → (other : List ℕ) → GoAlike rest other → more_digits high n other ≡ (n, other)
    at false e = cc
    at true e =
        let is : more_digits high (b - 48) bs ≡ (n, rest) = cc in
        subst (λ (r : ℕ × List ℕ). (other : List ℕ) → GoAlike r.1 other → more_digits high r.0 other ≡ (r.0, other)) is (ended high (b - 48) bs)

-- a number, without its blank
abbrev IsDecimal : ℕ → ℕ → ℕ → List ℕ → Type 0
IsDecimal low high n text = (low ≤ n) × (n ≤ high) × (text ≡ decimal n)

no_digit : (bytes : List ℕ) → IsParted bytes → BeginsWithout is_digit bytes
no_digit bytes (inl is) = subst (BeginsWithout is_digit) (sym is.1) refl
no_digit bytes (inr is) = subst (BeginsWithout is_digit) (sym is.1) refl

-- what a number is taken for
decimal_taken : (low high : ℕ) (bytes : List ℕ) (n : ℕ) (rest : List ℕ) → high < 2 ^ 128 → low ≤ 1 → decimal_at low high bytes ≡ Ok (n, rest) → Takes (IsDecimal low high) Parted bytes n rest
decimal_taken low high bytes n rest fits one e =
    let t = decimal_takes low high bytes n rest fits e in
    record {
      front = decimal n;
      is = (t.least, t.most, refl);
      split = t.split;
      only = λ u text behind other is parted alike same.
          let here = front_taken low high n (omega (arith, t.most)) one t.least t.most other ∙ ap Ok (decimal_ended low high bytes n rest e other alike) in
          let there = decimal_again low high u behind fits one is.0 is.1 (no_digit behind parted) in
          let both : Ok (u, behind) ≡ Ok (n, other) = sym there ∙ ap (λ l. decimal_at low high (l ++ behind)) (sym is.2) ∙ ap (decimal_at low high) (sym same) ∙ here in
          let pair : (u, behind) ≡ (n, other) = cc in
          (ap (λ (r : ℕ × List ℕ). r.0) pair, sym (ap (λ (r : ℕ × List ℕ). r.1) pair));
    }

-- where no number is read, the first byte begins none
decimal_breaks : (low high left : ℕ) (bytes : List ℕ) → high < 2 ^ 128 → low ≤ 1 → low ≤ high → decimal_at low high bytes ≡ Err left → Breaks (IsDecimal low high) Parted bytes left
decimal_breaks low high left bytes fits one order e =
    subst (λ l. Breaks (IsDecimal low high) Parted bytes l) (all bytes e)
    (breaks_now (IsDecimal low high) Parted bytes low (decimal low) (omega arith, order, refl) some (none bytes e))
  where
    taken : (n : ℕ) (text : List ℕ) → IsDecimal low high n text → decimal_at low high text ≡ Ok (more_digits high n [])
    taken n text is = ap (decimal_at low high) (is.2 ∙ sym (append-nil (decimal n))) ∙ front_taken low high n (omega (arith, is.1)) one is.0 is.1 []

    some : (n : ℕ) → IsDecimal low high n [] → ⊥
    some n is = let read = taken n [] is in cc

    all : (bytes : List ℕ) → decimal_at low high bytes ≡ Err left → length bytes ≡ left
    all [] e = cc
    all (b ∷ bs) e = at (is_first low high b) e
      where
        at : (t : Bool) → cond t (Ok (more_digits high (b - 48) bs)) (Err (length (b ∷ bs))) ≡ Err left → length (b ∷ bs) ≡ left
        at true e = cc
        at false e = cc

    none : (bytes : List ℕ) → decimal_at low high bytes ≡ Err left → NoneBegins (IsDecimal low high) bytes
    none [] e = tt
    none (b ∷ bs) e = at (is_first low high b) refl e
      where
        at : (t : Bool) → is_first low high b ≡ t → cond t (Ok (more_digits high (b - 48) bs)) (Err (length (b ∷ bs))) ≡ Err left → NoneBegins (IsDecimal low high) (b ∷ bs)
        at true t e = cc
        at false t e = λ n more is. let read = taken n (b ∷ more) is in cc

-- the same of a function's answer
decimal_reads : {X : Type 0} (value : X → ℕ) (after : X → List ℕ) (result : Result X Broken) (low high : ℕ) (bytes : List ℕ) → high < 2 ^ 128 → low ≤ 1 → low ≤ high
    → Tells (λ x. (value x, after x)) result (decimal_at low high bytes) → Reads (IsDecimal low high) Parted value after bytes result
decimal_reads value after (Ok x) low high bytes fits one order h = decimal_taken low high bytes (value x) (after x) fits one h
decimal_reads value after (Err e) low high bytes fits one order h = decimal_breaks low high e.left bytes fits one order h

-- and behind the blank
pub number_reads : {X : Type 0} (value : X → ℕ) (after : X → List ℕ) (result : Result X Broken) (low high : ℕ) (whole bytes : List ℕ) → high < 2 ^ 128 → low ≤ 1 → low ≤ high → whole ≡ 32 ∷ bytes
    → Tells (λ x. (value x, after x)) result (decimal_at low high bytes) → Reads (IsNumber low high) Parted value after whole result
number_reads value after result low high whole bytes fits one order blank h =
    after_reads value after result
    (after_byte (IsNumber low high) (IsDecimal low high) Parted 32 whole bytes blank (λ v is. cc (is.2)) (λ v text is. (is.0, is.1, ap (λ l. 32 ∷ l) is.2)) (λ v text is. (is.0, is.1, cc (is.2))))
    (decimal_reads value after result low high bytes fits one order h)

pub number_found : {X : Type 0} (value : X → ℕ) (after : X → List ℕ) (result : Result X Broken) (low high : ℕ) (whole bytes : List ℕ) → high < 2 ^ 128 → whole ≡ 32 ∷ bytes
    → Tells (λ x. (value x, after x)) result (decimal_at low high bytes) → IfOk result (λ x. (low ≤ value x) × (value x ≤ high) × (whole ≡ number (value x) ++ after x))
number_found value after (Ok x) low high whole bytes fits blank h =
    let t = decimal_takes low high bytes (value x) (after x) fits h in
    (t.least, t.most, blank ∙ ap (λ l. 32 ∷ l) t.split)
number_found value after (Err e) low high whole bytes fits blank h = tt
