use Rattle.std.proofs.Common.{◌≡◌, ◌++◌, ◌-◌}
use Rattle.lz_lines.specs.Fields.{hex_digits}
use Rattle.lz_lines.proofs.printing.push_digits.Given as goal

abbrev pub invariant-loop-i : goal.invariant-loop-i
invariant-loop-i l = l.out.items ++ hex_digits (l.count - l.i) l.value ≡ l.initial.out.items ++ hex_digits l.count l.value
