-- So far the literal says whether the low parts of both words are equal.
use Rattle.std.proofs.Common.{◌≡◌, ◌==◌, take}
use Rattle.g_arith.specs.Words.{Adds, HasBit, number_in}
use Rattle.g_arith.proofs.comparisons.equal.Given as goal

abbrev pub invariant-loop-i : goal.invariant-loop-i
invariant-loop-i g l = record {
  equal : HasBit l.builder.part l.same (λ sources. number_in l.initial.builder.part sources (take l.i l.x) == number_in l.initial.builder.part sources (take l.i l.y));
  adds : Adds l.initial.builder.part l.builder.part;
  book : l.builder.book ≡ l.initial.builder.book;
}
