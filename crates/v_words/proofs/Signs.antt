-- Comparisons of signed words.
use Rattle.std.proofs.Common.{◌≡◌, ℕ, Bool, true, false, nat_lt, not, if◌then◌else◌, refl, sym, ap}
use mathlib.Core.Bool.{xor, beq}
use Rattle.lz_base.specs.Bits.{is_negative}
use Rattle.v_meaning.specs.Senses.{less}

-- the words have different signs
pub less_apart : (w m n : ℕ) (s a b : Bool) → s ≡ true → a ≡ is_negative w m → b ≡ is_negative w n → not (beq a b) ≡ true → a ≡ less w s m n
unfolding xor
less_apart w m n s a b signed p q apart =
    let e : not (beq (is_negative w m) (is_negative w n)) ≡ true = rw (← p, ← q) apart in
    rw (signed, p) (sym (ap (λ t. if t then is_negative w m else nat_lt m n) e))

-- they have one sign
pub less_alike : (w m n : ℕ) (s a b : Bool) → s ≡ true → a ≡ is_negative w m → b ≡ is_negative w n → not (beq a b) ≡ false → nat_lt m n ≡ less w s m n
unfolding xor
less_alike w m n s a b signed p q alike =
    let e : not (beq (is_negative w m) (is_negative w n)) ≡ false = rw (← p, ← q) alike in
    rw signed (sym (ap (λ t. if t then is_negative w m else nat_lt m n) e))

pub less_unsigned : (w m n : ℕ) (s : Bool) → s ≡ false → nat_lt m n ≡ less w s m n
less_unsigned w m n s plain = rw plain refl
