-- How long numbers are in a text.
use Rattle.std.proofs.Common.{◌≡◌, ℕ, ◌+◌, ◌/◌, ◌%◌, ◌<◌, ◌≤◌, ◌^◌, List, [], ◌∷◌, length, arith, ap, ◌∙◌}
use Rattle.std.proofs.lemmas.Fmt.{decimal_step_wide, decimal_digit, length-decimal-le_wide}
use Rattle.std.proofs.lemmas.List.{length-append}
use Rattle.std.specs.Fmt.{decimal}
use Rattle.lz_lines.specs.Fields.{number}

pub number_short : (n : ℕ) → n < 2 ^ 128 → length (number n) ≤ 40
number_short n h = let few : length (decimal n) ≤ 39 = length-decimal-le_wide 39 n (omega arith) (omega arith) (omega arith) in omega (arith, few)

pub number_digit : (n : ℕ) → n < 10 → length (number n) ≡ 2
number_digit n h = let e = ap (λ (l : List ℕ). length l) (decimal_digit n h) in omega (arith, e)

pub number_step : (n : ℕ) → 10 ≤ n → n < 2 ^ 128 → length (number n) ≡ length (number (n / 10)) + 1
number_step n h small =
    let e = ap (λ (l : List ℕ). length l) (decimal_step_wide n h (omega arith)) ∙ length-append (decimal (n / 10)) ((48 + n % 10) ∷ []) in
    omega (arith, e)
