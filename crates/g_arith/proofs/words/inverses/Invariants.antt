-- So far the literals are inverted.
use Rattle.std.proofs.Common.{take}
use Rattle.g_arith.specs.Sums.{IsInverse}
use Rattle.g_arith.proofs.words.inverses.Given as goal

abbrev pub invariant-loop-literal : goal.invariant-loop-literal
invariant-loop-literal l = IsInverse (take l.literal-index l.word) l.bits
