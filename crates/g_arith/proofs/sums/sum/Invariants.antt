-- So far the bits and the carry make the sum of the low parts of both words.
use Rattle.std.proofs.Common.{◌≡◌, take}
use Rattle.g_arith.specs.Sums.{IsSum}
use Rattle.g_arith.specs.Words.{Adds}
use Rattle.g_arith.proofs.sums.sum.Given as goal

abbrev pub invariant-loop-i : goal.invariant-loop-i
invariant-loop-i g l = record {
  sum : IsSum l.initial.builder.part l.builder.part (take l.i l.x) (take l.i l.y) l.initial.carry l.bits l.carry;
  adds : Adds l.initial.builder.part l.builder.part;
  book : l.builder.book ≡ l.initial.builder.book;
}
