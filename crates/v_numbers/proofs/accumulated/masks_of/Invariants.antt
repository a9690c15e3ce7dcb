-- What the loop over the bytes keeps.
use Rattle.std.proofs.Common.{◌≡◌, ◌%◌, ◌^◌, ℕ, List, drop}
use Rattle.v_meaning.specs.Literals.{digit_value, digits_in, is_x, is_z, number_behind}
use Rattle.v_numbers.specs.Ones.{ones_where}
use Rattle.v_numbers.proofs.accumulated.masks_of.Given as goal

-- what is left of the bytes makes of the number so far what all bytes make of the number at the start
abbrev AreLeft : ℕ → (ℕ → ℕ) → ℕ → ℕ → List ℕ → List ℕ → Type 0
AreLeft radix f start now all left = number_behind now radix f (digits_in left) % 2 ^ 128 ≡ number_behind start radix f (digits_in all) % 2 ^ 128

abbrev pub invariant-loop-byte : goal.invariant-loop-byte
invariant-loop-byte l = record {
  ones : AreLeft l.base.radix digit_value l.initial.masks.ones l.masks.ones l.bytes (drop l.byte-index l.bytes);
  unknown : AreLeft (2 ^ l.base.bits) (ones_where is_x l.base.bits) l.initial.masks.unknown l.masks.unknown l.bytes (drop l.byte-index l.bytes);
  impedance : AreLeft (2 ^ l.base.bits) (ones_where is_z l.base.bits) l.initial.masks.impedance l.masks.impedance l.bytes (drop l.byte-index l.bytes);
}
