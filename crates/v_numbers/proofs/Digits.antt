-- The digits of bytes, from byte to byte.
use Rattle.std.proofs.Common.{◌≡◌, ◌<◌, ◌+◌, ℕ, List, [], ◌∷◌, ◌++◌, length, drop, get_or, ap, sym, ◌∙◌, drop-cons, add-one, not, ◌&&◌, ◌==◌, ◌≤◌, ◌%◌, min, drop_of_length-le}
use Rattle.std.proofs.Math.Nat.{mod-mod}
use Rattle.std.proofs.lemmas.List.Elements.{filter-append}
use Rattle.v_syntax.specs.Numbers.{is_white}
use Rattle.v_meaning.specs.Literals.{digit_value, digits_in, number_behind}
use Rattle.v_numbers.proofs.Wrapped.{behind_append, capped, wrap_alike}

-- what is left at a byte begins with it
pub left_at : (bytes : List ℕ) (i : ℕ) → i < length bytes → drop i bytes ≡ get_or bytes i 0 ∷ drop (i + 1) bytes
left_at bytes i h = rw (add-one i) (drop-cons bytes i 0 h)

pub digits_cons : (byte : ℕ) (bytes : List ℕ) → digits_in (byte ∷ bytes) ≡ digits_in (byte ∷ []) ++ digits_in bytes
digits_cons byte bytes = filter-append (λ b. not (is_white b) && not (b == 95)) (byte ∷ []) bytes

-- the digits of a byte, then those that are left
pub digits_next : (b r : ℕ) (f : ℕ → ℕ) (bytes : List ℕ) (i : ℕ) → i < length bytes →
    number_behind b r f (digits_in (drop i bytes)) ≡ number_behind (number_behind b r f (digits_in (get_or bytes i 0 ∷ []))) r f (digits_in (drop (i + 1) bytes))
digits_next b r f bytes i h =
    ap (λ rest. number_behind b r f (digits_in rest)) (left_at bytes i h)
    ∙ ap (number_behind b r f) (digits_cons (get_or bytes i 0) (drop (i + 1) bytes))
    ∙ behind_append b r f (digits_in (get_or bytes i 0 ∷ [])) (digits_in (drop (i + 1) bytes))

-- a number that stops at a limit, with one byte more
pub capped_next : (value next limit all : ℕ) (bytes : List ℕ) (i : ℕ) → i < length bytes →
    next ≡ min (number_behind value 10 digit_value (digits_in (get_or bytes i 0 ∷ []))) limit →
    min (number_behind value 10 digit_value (digits_in (drop i bytes))) limit ≡ all →
    min (number_behind next 10 digit_value (digits_in (drop (i + 1) bytes))) limit ≡ all
capped_next value next limit all bytes i h e left =
    ap (λ n. min (number_behind n 10 digit_value (digits_in (drop (i + 1) bytes))) limit) e
    ∙ capped (number_behind value 10 digit_value (digits_in (get_or bytes i 0 ∷ []))) limit (digits_in (drop (i + 1) bytes))
    ∙ sym (ap (λ n. min n limit) (digits_next value 10 digit_value bytes i h)) ∙ left

-- a number that wraps, with one byte more
pub wrapped_next : (value next r m all : ℕ) (f : ℕ → ℕ) (bytes : List ℕ) (i : ℕ) → i < length bytes →
    next ≡ number_behind value r f (digits_in (get_or bytes i 0 ∷ [])) % m →
    number_behind value r f (digits_in (drop i bytes)) % m ≡ all →
    number_behind next r f (digits_in (drop (i + 1) bytes)) % m ≡ all
wrapped_next value next r m all f bytes i h e left =
    wrap_alike next (number_behind value r f (digits_in (get_or bytes i 0 ∷ []))) r m f (digits_in (drop (i + 1) bytes))
    (ap (λ n. n % m) e ∙ mod-mod (number_behind value r f (digits_in (get_or bytes i 0 ∷ []))) m)
    ∙ sym (ap (λ n. n % m) (digits_next value r f bytes i h)) ∙ left

-- no byte is left
pub wrapped_end : (value r m all : ℕ) (f : ℕ → ℕ) (bytes : List ℕ) (i : ℕ) → length bytes ≤ i →
    number_behind value r f (digits_in (drop i bytes)) % m ≡ all → value % m ≡ all
wrapped_end value r m all f bytes i h left = sym (ap (λ (rest : List ℕ). number_behind value r f (digits_in rest) % m) (drop_of_length-le bytes h)) ∙ left
