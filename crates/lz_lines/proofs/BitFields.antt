-- What is read of a bit.
use Rattle.std.proofs.Common.{◌≡◌, ◌≢◌, ℕ, List, [], ◌∷◌, ◌++◌, length, Bool, true, false, refl, arith, ap, sym, subst, ◌∙◌}
use Rattle.lz_lines.specs.Fields.{IsBit, bit}
use Rattle.lz_lines.specs.Forms.{Takes, Breaks, Anything}
use Rattle.lz_lines.proofs.Forms.{after_byte, after_breaks, breaks_now, NoneBegins}

-- a bit's digit
abbrev digit : Bool → ℕ
digit false = 48
digit true = 49

digit_of : (b : Bool) → bit b ≡ 32 ∷ digit b ∷ []
digit_of false = refl
digit_of true = refl

pub behind_blank : (b : Bool) (text : List ℕ) → IsBit b text → (more : List ℕ) × (text ≡ 32 ∷ more)
behind_blank b text is = (digit b ∷ [], is ∙ digit_of b)

one_bit : (a b : Bool) → digit a ≡ digit b → a ≡ b
one_bit false false e = refl
one_bit false true e = absurd (omega (arith, e))
one_bit true false e = absurd (omega (arith, e))
one_bit true true e = refl

pub bit_taken : (b : Bool) (bytes rest : List ℕ) → bytes ≡ bit b ++ rest → Takes IsBit Anything bytes b rest
bit_taken b bytes rest split = record {
  front = bit b;
  is = refl;
  split = split;
  only = λ u text behind other is any alike e.
      let same : 32 ∷ digit b ∷ other ≡ 32 ∷ digit u ∷ behind = ap (λ l. l ++ other) (sym (digit_of b)) ∙ e ∙ ap (λ l. l ++ behind) (is ∙ digit_of u) in
      (sym (one_bit b u (cc (same))), cc (same));
}

abbrev IsDigit : Bool → List ℕ → Type 0
IsDigit b text = text ≡ digit b ∷ []

-- no bit begins so
bit_breaks : (bytes rest : List ℕ) → bytes ≡ 32 ∷ rest → NoneBegins IsDigit rest → Breaks IsBit Anything bytes (length rest)
bit_breaks bytes rest blank none =
    after_breaks (after_byte IsBit IsDigit Anything 32 bytes rest blank (λ b is. let e = is ∙ digit_of b in cc (e)) (λ b text is. ap (λ l. 32 ∷ l) is ∙ sym (digit_of b)) (λ b text is. let e = is ∙ digit_of b in cc (e)))
    (breaks_now IsDigit Anything rest false (48 ∷ []) refl (λ b is. cc (is)) none)

pub no_digit : (bytes rest : List ℕ) → bytes ≡ 32 ∷ rest → length rest ≡ 0 → Breaks IsBit Anything bytes 0
no_digit bytes rest blank none = subst (λ n. Breaks IsBit Anything bytes n) none (bit_breaks bytes rest blank (at rest none))
  where
    at : (rest : List ℕ) → length rest ≡ 0 → NoneBegins IsDigit rest
    at [] e = tt
    at (b ∷ bs) e = absurd (omega (arith, e))

pub other_digit : (bytes rest left : List ℕ) (b : ℕ) → bytes ≡ 32 ∷ rest → rest ≡ b ∷ left → b ≢ 48 → b ≢ 49 → Breaks IsBit Anything bytes (length rest)
other_digit bytes rest left b blank split zero one = bit_breaks bytes rest blank (subst (λ l. NoneBegins IsDigit l) (sym split) none)
  where
    none : (u : Bool) (more : List ℕ) → IsDigit u (b ∷ more) → ⊥
    none false more is = zero (cc (is))
    none true more is = one (cc (is))
