-- What is read of a digit, and of the field of a choice.
use Rattle.std.proofs.Common.{◌≡◌, ◌≢◌, ℕ, ◌<◌, List, [], ◌∷◌, ◌++◌, length, get_or, flat_map, Bool, true, false, refl, arith, ap, sym, subst, ◌∙◌}
use Rattle.lz_lines.specs.Fields.{Each, IsWord}
use Rattle.lz_lines.specs.Forms.{Takes, Breaks, Anything, Then}
use Rattle.lz_lines.proofs.Forms.{After, after_start, after_same, after_then, after_breaks, breaks_now, then_broken, NoneBegins}
use Rattle.t_choices.specs.Bits.{AnyBit, HasBits, choice_field, digit}
use Rattle.t_choices.specs.Repeated.{Spelled, Exactly}
use Rattle.t_choices.proofs.Repeated.{times, times_there, times_length}

-- a digit was read
pub digit_taken : (bit : Bool) (bytes rest : List ℕ) → bytes ≡ digit bit ++ rest → Takes (Spelled digit AnyBit) Anything bytes bit rest
digit_taken bit bytes rest split = record { front = digit bit; is = (tt, refl); split = split; only = λ u text behind other is any alike e. at bit u other behind (e ∙ ap (λ l. l ++ behind) is.1) }
  where
    at : (a u : Bool) (other behind : List ℕ) → digit a ++ other ≡ digit u ++ behind → (u ≡ a) × (other ≡ behind)
    at false false other behind e = (refl, cc)
    at false true other behind e = absurd (omega (arith, ap (λ (l : List ℕ). get_or l 0 0) e))
    at true false other behind e = absurd (omega (arith, ap (λ (l : List ℕ). get_or l 0 0) e))
    at true true other behind e = (refl, cc)

digit_breaks : (bytes : List ℕ) → NoneBegins (Spelled digit AnyBit) bytes → Breaks (Spelled digit AnyBit) Anything bytes (length bytes)
digit_breaks bytes none = breaks_now (Spelled digit AnyBit) Anything bytes false (digit false) (tt, refl) some none
  where
    some : (bit : Bool) → Spelled digit AnyBit bit [] → ⊥
    some false is = cc (is.1)
    some true is = cc (is.1)

-- no digit stands there
pub no_digit : (bytes : List ℕ) → length bytes ≡ 0 → Breaks (Spelled digit AnyBit) Anything bytes 0
no_digit [] none = digit_breaks [] tt
no_digit (b ∷ bs) none = absurd (omega (arith, none))

pub other_digit : (bytes rest : List ℕ) (b : ℕ) → bytes ≡ b ∷ rest → b ≢ 48 → b ≢ 49 → Breaks (Spelled digit AnyBit) Anything bytes (length bytes)
other_digit bytes rest b split zero one = digit_breaks bytes (subst (λ l. NoneBegins (Spelled digit AnyBit) l) (sym split) none)
  where
    none : (bit : Bool) (more : List ℕ) → Spelled digit AnyBit bit (b ∷ more) → ⊥
    none false more is = zero (cc (is.1))
    none true more is = one (cc (is.1))

-- a choice of no bits has no field
pub no_bits : (count : ℕ) (bytes : List ℕ) → count ≡ 0 → Takes (Spelled choice_field (HasBits count)) Anything bytes [] bytes
no_bits count bytes none = record { front = []; is = (sym none, refl); split = refl; only = λ u text behind other is any alike e. at u text behind other is e }
  where
    at : (bits : List Bool) (text behind other : List ℕ) → Spelled choice_field (HasBits count) bits text → other ≡ text ++ behind → (bits ≡ []) × (other ≡ behind)
    at [] text behind other is e = (refl, e ∙ ap (λ l. l ++ behind) is.1)
    at (b ∷ bs) text behind other is e = absurd (omega (arith, is.0, none))

-- else it has a blank and a digit for each bit
abbrev pub Digits : ℕ → List Bool → List ℕ → Type 0
Digits count = Then (IsWord (32 ∷ [])) (λ u. Exactly digit AnyBit count)

any_bits : (bits : List Bool) → Each AnyBit bits
any_bits [] = tt
any_bits (b ∷ bs) = (tt, any_bits bs)

bits_parts : (count : ℕ) (bytes : List ℕ) → 0 < count → After (Spelled choice_field (HasBits count)) Anything bytes (Digits count) bytes
bits_parts count bytes some = after_same (Digits count) (after_start (Spelled choice_field (HasBits count)) Anything bytes) to from
  where
    to : (bits : List Bool) (text : List ℕ) → Digits count bits text → Spelled choice_field (HasBits count) bits text
    to [] text (u, front, back, is, digits, e) = absurd (omega (arith, some, digits.1))
    to (b ∷ bs) text (u, front, back, is, digits, e) = (digits.1, e ∙ ap (λ l. l ++ back) is ∙ ap (λ l. 32 ∷ l) digits.2)

    from : (bits : List Bool) (text : List ℕ) → Spelled choice_field (HasBits count) bits text → Digits count bits text
    from [] text is = absurd (omega (arith, some, is.0))
    from (b ∷ bs) text is = (tt, 32 ∷ [], flat_map digit (b ∷ bs), refl, (any_bits (b ∷ bs), is.0, refl), is.1)

-- the blank was read
pub blank_read : (count : ℕ) {bytes rest : List ℕ} → 0 < count → Takes (IsWord (32 ∷ [])) Anything bytes tt rest → After (Spelled choice_field (HasBits count)) Anything bytes (Exactly digit AnyBit count) rest
blank_read count {bytes = bytes} some t = after_then (IsWord (32 ∷ [])) Anything (λ u. Exactly digit AnyBit count) (bits_parts count bytes some) (λ a v text behind is b. tt) t

-- it is none
pub blank_broken : (count : ℕ) {bytes : List ℕ} {k : ℕ} → 0 < count → Breaks (IsWord (32 ∷ [])) Anything bytes k → Breaks (Spelled choice_field (HasBits count)) Anything bytes k
blank_broken count {bytes = bytes} some b =
    after_breaks (bits_parts count bytes some)
    (then_broken (IsWord (32 ∷ [])) Anything (λ u. Exactly digit AnyBit count) Anything (λ u text is. (times false count, flat_map digit (times false count), times_there digit AnyBit count false tt)) (λ a v text behind is b. tt) b)

-- a choice can have so many bits
pub some_bits : (count : ℕ) → (bits : List Bool) × HasBits count bits
some_bits count = (times false count, times_length false count)
