-- What the loop over the bytes keeps.
use Rattle.std.proofs.Common.{◌≡◌, drop}
use Rattle.v_meaning.specs.Literals.{digits_in}
use Rattle.v_numbers.proofs.accumulated.above.Given as goal

abbrev pub invariant-loop-byte : goal.invariant-loop-byte
invariant-loop-byte l = digits_in (drop l.byte-index l.bytes) ≡ digits_in l.bytes
