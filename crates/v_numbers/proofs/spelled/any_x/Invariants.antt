-- What the loop over the bytes keeps.
use Rattle.std.proofs.Common.{◌≡◌, drop}
use Rattle.v_meaning.specs.Literals.{has_digit, is_x}
use Rattle.v_numbers.proofs.spelled.any_x.Given as goal

abbrev pub invariant-loop-byte : goal.invariant-loop-byte
invariant-loop-byte l = has_digit is_x (drop l.byte-index l.bytes) ≡ has_digit is_x l.bytes
