-- So far the bits are those of the word that is chosen.
use Rattle.std.proofs.Common.{◌≡◌, take, if◌then◌else◌}
use Rattle.g_arith.specs.Words.{Adds, HasNumber, number_in, bit_in}
use Rattle.g_arith.proofs.choices.choose.Given as goal

abbrev pub invariant-loop-i : goal.invariant-loop-i
invariant-loop-i g l = record {
  number : HasNumber l.builder.part l.bits l.i (λ sources. if bit_in l.initial.builder.part sources l.condition then number_in l.initial.builder.part sources (take l.i l.x) else number_in l.initial.builder.part sources (take l.i l.y));
  adds : Adds l.initial.builder.part l.builder.part;
  book : l.builder.book ≡ l.initial.builder.book;
}
