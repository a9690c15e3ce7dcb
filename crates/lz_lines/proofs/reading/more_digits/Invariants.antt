use Rattle.std.proofs.Common.{◌≡◌, length}
use Rattle.lz_lines.specs.Digits.{more_digits}
use Rattle.lz_lines.proofs.reading.more_digits.Given as goal

abbrev pub invariant-loop-digit : goal.invariant-loop-digit
invariant-loop-digit l = more_digits l.high l.read l.left ≡ more_digits l.high l.value l.bytes

abbrev pub decreases-loop-digit : goal.decreases-loop-digit
decreases-loop-digit l = length l.left
