use Rattle.std.proofs.Common.{◌≡◌, ◌++◌, take, flat_map}
use Rattle.t_choices.specs.Bits.{digit}
use Rattle.t_choices.proofs.bits.push_digits.Given as goal

abbrev pub invariant-loop-bit : goal.invariant-loop-bit
invariant-loop-bit l = l.out.items ≡ l.initial.out.items ++ flat_map digit (take l.bit-index l.bits)
