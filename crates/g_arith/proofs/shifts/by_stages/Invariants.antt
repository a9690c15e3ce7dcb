-- So far the word is moved by the number of the amount's low bits.
use Rattle.std.proofs.Common.{◌≡◌, ◌^◌, length, take}
use Rattle.g_arith.specs.Operators.{shifted}
use Rattle.g_arith.specs.Words.{Adds, HasNumber, number_in, bit_in}
use Rattle.g_arith.proofs.shifts.by_stages.Given as goal

abbrev pub invariant-loop-i : goal.invariant-loop-i
invariant-loop-i g l = record {
  number : HasNumber l.builder.part l.word (length l.x) (λ sources. shifted l.left (length l.x) (bit_in l.initial.builder.part sources l.fill) (number_in l.initial.builder.part sources l.x) (number_in l.initial.builder.part sources (take l.i l.amount)));
  adds : Adds l.initial.builder.part l.builder.part;
  book : l.builder.book ≡ l.initial.builder.book;
  places : l.places ≡ 2 ^ l.i;
}
