-- What the loop over the bytes keeps.
use Rattle.std.proofs.Common.{◌≡◌, drop}
use Rattle.v_meaning.specs.Literals.{has_digit, is_z}
use Rattle.v_numbers.proofs.spelled.any_z.Given as goal

abbrev pub invariant-loop-byte : goal.invariant-loop-byte
invariant-loop-byte l = has_digit is_z (drop l.byte-index l.bytes) ≡ has_digit is_z l.bytes
