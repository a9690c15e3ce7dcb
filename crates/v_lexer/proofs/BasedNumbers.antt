-- The reader of based numbers against their form.
use Rattle.std.proofs.Common.{◌≡◌, ◌≤◌, ◌-◌, ℕ, Bool, true, false, ◌==◌, List, [], ◌∷◌, ◌++◌, refl, sym, ap, subst, ◌∙◌, inl, inr, arith, length, take, length-append, append_assoc, Option, Some, None, if◌then◌else◌}
use Rattle.std.specs.List.{list_all}
use Rattle.std.proofs.lemmas.Bool.{and_parts, or_cases, eqb-true}
use Rattle.std.proofs.Math.Seq.{take-append_seam}
use Rattle.std.proofs.lemmas.List.{append_cancel_right}
use Rattle.v_syntax.specs.declared.token.Lexeme.{Lexeme}
use Rattle.v_syntax.specs.declared.token.Lexeme.TheVariants as l
use Rattle.v_syntax.specs.Tokens.{spelling, HasForm, Begins, stops}
use Rattle.v_syntax.specs.Numbers.{is_white, is_base, is_binary, is_octal, is_decimal, is_digit_of, is_later_digit, are_digits, is_sign, IsBased}
use Rattle.v_syntax.specs.Tokens.Piece.{Item}
use Rattle.v_lexer.specs.declared.classes.Kind.TheVariants as kind
use Rattle.v_lexer.specs.Scan.{kind_of, front_of, rest_of, is_sign_letter, after_sign, base_letter, base_of, after_digits, after_base, after_based, BeginsNoToken}
use Rattle.v_lexer.proofs.Runs.{front_rest, front_passes, rest_exact, rest_at_most}
use Rattle.v_lexer.proofs.FirstBytes.{is_based, by_white}
use Rattle.v_lexer.proofs.Steps.{same_kind}

regroup : (a b c d : List ℕ) → ((a ++ b) ++ c) ++ d ≡ a ++ (b ++ (c ++ d))
regroup a b c d = simp append_assoc

some_same : (x y : List ℕ) → Some x ≡ Some y → x ≡ y
some_same x y is = cc

-- ---- what is read has the form

record Digits (base : ℕ) (bytes rest : List ℕ) : Type 0 where
  digits : List ℕ
  text : bytes ≡ digits ++ rest
  are : are_digits base digits ≡ true

digits_read : (base : ℕ) (bytes rest : List ℕ) → after_digits base bytes ≡ Some rest → Digits base bytes rest
digits_read base [] rest is = absurd (cc)
digits_read base (first ∷ bytes) rest is =
    elim (is_digit_of base first) as (λ b. is_digit_of base first ≡ b → (if b then Some (rest_of (is_later_digit base first) bytes) else None) ≡ Some rest → Digits base (first ∷ bytes) rest) [
      | true ↦ λ t e.
          let same : rest_of (is_later_digit base first) bytes ≡ rest = cc in
          record {
            digits = first ∷ front_of (is_later_digit base first) bytes;
            text = ap (λ l. first ∷ l) (front_rest (is_later_digit base first) bytes ∙ ap (λ l. front_of (is_later_digit base first) bytes ++ l) same);
            are = rw t (front_passes (is_later_digit base first) bytes);
          }
      | false ↦ λ t e. absurd (cc)
    ] refl is

record Base (bytes rest : List ℕ) (base : ℕ) : Type 0 where
  sign : List ℕ
  text : bytes ≡ sign ++ base ∷ rest
  has_sign : is_sign sign ≡ true
  has_base : is_base base ≡ true

letter_read : (bytes : List ℕ) (found : ℕ × List ℕ) → base_letter bytes ≡ Some found → (bytes ≡ found.0 ∷ found.1) × (is_base found.0 ≡ true)
letter_read [] found is = absurd (cc)
letter_read (byte ∷ bytes) found is =
    let here : ℕ × List ℕ = (byte, bytes) in
    elim (is_base byte) as (λ b. is_base byte ≡ b → (if b then Some here else None) ≡ Some found → (byte ∷ bytes ≡ found.0 ∷ found.1) × (is_base found.0 ≡ true)) [
      | true ↦ λ t e.
          let pair : here ≡ found = cc in
          (ap (λ (p : ℕ × List ℕ). p.0 ∷ p.1) pair, ap (λ (p : ℕ × List ℕ). is_base p.0) (sym pair) ∙ t)
      | false ↦ λ t e. absurd (cc)
    ] refl is

sign_read : (bytes : List ℕ) (found : ℕ × List ℕ) → base_letter (after_sign bytes) ≡ Some found → Base bytes found.1 found.0
sign_read [] found is = absurd (cc)
sign_read (byte ∷ bytes) found is =
    elim (is_sign_letter byte) as (λ b. is_sign_letter byte ≡ b → base_letter (if b then bytes else byte ∷ bytes) ≡ Some found → Base (byte ∷ bytes) found.1 found.0) [
      | true ↦ λ t e.
          let letter = letter_read bytes found e in
          record { sign = byte ∷ []; text = ap (λ l. byte ∷ l) letter.0; has_sign = t; has_base = letter.1 }
      | false ↦ λ t e.
          let letter = letter_read (byte ∷ bytes) found e in
          record { sign = []; text = letter.0; has_sign = refl; has_base = letter.1 }
    ] refl is

base_read : (bytes : List ℕ) (found : ℕ × List ℕ) → base_of bytes ≡ Some found → (tail : List ℕ) × (bytes ≡ 39 ∷ tail) × Base tail found.1 found.0
base_read [] found is = absurd (cc)
base_read (byte ∷ bytes) found is =
    elim (byte == 39) as (λ b. (byte == 39) ≡ b → (if b then base_letter (after_sign bytes) else None) ≡ Some found → (tail : List ℕ) × (byte ∷ bytes ≡ 39 ∷ tail) × Base tail found.1 found.0) [
      | true ↦ λ t e. (bytes, ap (λ b. b ∷ bytes) (eqb-true byte 39 t), sign_read bytes found e)
      | false ↦ λ t e. absurd (cc)
    ] refl is

record Read (bytes rest : List ℕ) : Type 0 where
  front : List ℕ
  text : bytes ≡ front ++ rest
  is : IsBased front

based_read : (bytes rest : List ℕ) → after_based bytes ≡ Some rest → Read bytes rest
based_read bytes rest is =
    elim (base_of bytes) as (λ o. base_of bytes ≡ o → after_base o ≡ Some rest → Read bytes rest) [
      | None ↦ λ t e. absurd (cc)
      | Some found ↦ λ t e.
          let begun = base_read bytes found t in
          let base = begun.2 in
          let digits = digits_read found.0 (rest_of is_white found.1) rest e in
          let space = front_of is_white found.1 in
          let behind : found.1 ≡ space ++ (digits.digits ++ rest) = front_rest is_white found.1 ∙ ap (λ l. space ++ l) digits.text in
          record {
            front = 39 ∷ base.sign ++ found.0 ∷ space ++ digits.digits;
            text = begun.1 ∙ ap (λ l. 39 ∷ l) base.text ∙ ap (λ l. 39 ∷ base.sign ++ found.0 ∷ l) behind ∙ sym (regroup (39 ∷ base.sign) (found.0 ∷ space) digits.digits rest);
            is = record {
              sign = base.sign;
              base = found.0;
              space = space;
              digits = digits.digits;
              spelled = refl;
              has_sign = base.has_sign;
              has_base = base.has_base;
              has_space = front_passes is_white found.1;
              has_digits = digits.are;
            };
          }
    ] refl is

-- ---- what has the form is read

base_no_sign : (byte : ℕ) → is_base byte ≡ true → is_sign_letter byte ≡ false
base_no_sign byte is =
    elim (is_sign_letter byte) as (λ b. is_sign_letter byte ≡ b → b ≡ false) [
      | true ↦ λ t. elim (or_cases (byte == 115) (byte == 83) t) [
        | inl e ↦ let same : byte ≡ 115 = eqb-true byte 115 e in let no : is_base byte ≡ false = ap is_base same in sym is ∙ no
        | inr e ↦ let same : byte ≡ 83 = eqb-true byte 83 e in let no : is_base byte ≡ false = ap is_base same in sym is ∙ no
      ]
      | false ↦ λ t. refl
    ] refl

none_of : (a b c : Bool) → (if a then false else (if b then false else (if c then false else false))) ≡ false
none_of true b c = refl
none_of false true c = refl
none_of false false true = refl
none_of false false false = refl

digit_not_white : (base byte : ℕ) → is_digit_of base byte ≡ true → is_white byte ≡ false
digit_not_white base byte is =
    let none = none_of (is_binary base) (is_octal base) (is_decimal base) in
    elim (is_white byte) as (λ b. is_white byte ≡ b → b ≡ false) [
      | true ↦ λ t. sym is ∙ by_white (λ b. is_digit_of base b ≡ false) none none none none none byte t
      | false ↦ λ t. refl
    ] refl

sign_passed : (sign : List ℕ) (base : ℕ) (tail : List ℕ) → is_sign sign ≡ true → is_base base ≡ true → base_letter (after_sign (sign ++ base ∷ tail)) ≡ Some (base, tail)
sign_passed [] base tail sign is = let no = base_no_sign base is in rw no (rw is refl)
sign_passed (letter ∷ []) base tail sign is = rw sign (rw is refl)
sign_passed (letter ∷ more ∷ bytes) base tail sign is = absurd (cc)

digits_stop : (base : ℕ) (digits more : List ℕ) → are_digits base digits ≡ true → stops is_white (digits ++ more) ≡ true
digits_stop base [] more are = absurd (cc)
digits_stop base (first ∷ digits) more are =
    let parts = and_parts (is_digit_of base first) (list_all (is_later_digit base first) digits) are in
    rw (digit_not_white base first parts.0) refl

record Passed (read : Option (List ℕ)) (more : List ℕ) : Type 0 where
  rest : List ℕ
  is : read ≡ Some rest
  within : length rest ≤ length more

digits_passed : (base : ℕ) (digits more : List ℕ) → are_digits base digits ≡ true → Passed (after_digits base (digits ++ more)) more
digits_passed base [] more are = absurd (cc)
digits_passed base (first ∷ digits) more are =
    let parts = and_parts (is_digit_of base first) (list_all (is_later_digit base first) digits) are in
    record {
      rest = rest_of (is_later_digit base first) (digits ++ more);
      is = rw parts.0 refl;
      within = rest_at_most (is_later_digit base first) digits more parts.1;
    }

based_passed : (bytes number more : List ℕ) → IsBased number → bytes ≡ number ++ more → Passed (after_based bytes) more
based_passed bytes number more n text =
    let tail = n.space ++ (n.digits ++ more) in
    let whole : bytes ≡ 39 ∷ (n.sign ++ n.base ∷ tail) = text ∙ ap (λ l. l ++ more) n.spelled ∙ regroup (39 ∷ n.sign) (n.base ∷ n.space) n.digits more in
    let base : base_of bytes ≡ Some (n.base, tail) = ap base_of whole ∙ sign_passed n.sign n.base tail n.has_sign n.has_base in
    let digits = digits_passed n.base n.digits more n.has_digits in
    let space : rest_of is_white tail ≡ n.digits ++ more = rest_exact is_white n.space (n.digits ++ more) n.has_space (digits_stop n.base n.digits more n.has_digits) in
    record {
      rest = digits.rest;
      is = ap after_base base ∙ ap (after_digits n.base) space ∙ digits.is;
      within = digits.within;
    }

-- ---- the tokens

front_taken : (front rest : List ℕ) → take (length (front ++ rest) - length rest) (front ++ rest) ≡ front
front_taken front rest =
    let n : length (front ++ rest) - length rest ≡ length front = omega (arith, length-append front rest) in
    ap (λ n. take n (front ++ rest)) n ∙ take-append_seam front rest

pub based_within : (bytes rest : List ℕ) → after_based bytes ≡ Some rest → length rest ≤ length bytes
based_within bytes rest is = let read = based_read bytes rest is in omega (arith, ap length read.text, length-append read.front rest)

-- what is read stands at the end
pub based_split : (bytes rest : List ℕ) → after_based bytes ≡ Some rest → bytes ≡ take (length bytes - length rest) bytes ++ rest
based_split bytes rest is =
    let read = based_read bytes rest is in
    let front : take (length bytes - length rest) bytes ≡ read.front = ap (λ l. take (length l - length rest) l) read.text ∙ front_taken read.front rest in
    read.text ∙ ap (λ l. l ++ rest) (sym front)

-- what is read has the form
pub based_form : (bytes rest : List ℕ) → after_based bytes ≡ Some rest → IsBased (take (length bytes - length rest) bytes)
based_form bytes rest is =
    let read = based_read bytes rest is in
    subst IsBased (sym (ap (λ l. take (length l - length rest) l) read.text ∙ front_taken read.front rest)) read.is

-- the number with all its digits is the longest token
pub based_begins : (bytes number rest : List ℕ) → kind_of bytes ≡ kind.Based → bytes ≡ number ++ rest → after_based bytes ≡ Some rest → Begins bytes rest (Item (l.Based number))
based_begins bytes number rest starts text is =
    let read = based_read bytes rest is in
    let same : number ≡ read.front = append_cancel_right number read.front rest (sym text ∙ read.text) in
    record {
      text = text;
      one = (
        subst IsBased (sym same) read.is,
        λ other more has alike.
            let here : bytes ≡ spelling other ++ more = text ∙ alike in
            let as_based = is_based other (same_kind bytes kind.Based other more starts has here) in
            let form : IsBased as_based.0 = subst HasForm as_based.1 has in
            let long : bytes ≡ as_based.0 ++ more = here ∙ ap (λ (x : Lexeme). spelling x ++ more) as_based.1 in
            let passed = based_passed bytes as_based.0 more form long in
            let rests : rest ≡ passed.rest = some_same _ _ (sym is ∙ passed.is) in
            omega (arith, passed.within, ap length rests, ap length text, ap length here, length-append number rest, length-append (spelling other) more),
        tt,
      );
    }

pub no_based : (bytes : List ℕ) → kind_of bytes ≡ kind.Based → after_based bytes ≡ None → BeginsNoToken bytes
no_based bytes starts none = λ lexeme more begins.
    let as_based = is_based lexeme (same_kind bytes kind.Based lexeme more starts begins.one.0 begins.text) in
    let form : IsBased as_based.0 = subst HasForm as_based.1 begins.one.0 in
    let passed = based_passed bytes as_based.0 more form (begins.text ∙ ap (λ (x : Lexeme). spelling x ++ more) as_based.1) in
    let some : after_based bytes ≡ Some passed.rest = passed.is in
    cc
