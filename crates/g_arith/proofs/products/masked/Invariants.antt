-- So far the bits are the low part of the word, masked.
use Rattle.std.proofs.Common.{◌≡◌, take}
use Rattle.g_arith.specs.Products.{masked}
use Rattle.g_arith.specs.Words.{Adds, HasNumber, number_in, bit_in}
use Rattle.g_arith.proofs.products.masked.Given as goal

abbrev pub invariant-loop-i : goal.invariant-loop-i
invariant-loop-i g l = record {
  number : HasNumber l.builder.part l.bits l.i (λ sources. masked (number_in l.initial.builder.part sources (take l.i l.word)) (bit_in l.initial.builder.part sources l.bit));
  adds : Adds l.initial.builder.part l.builder.part;
  book : l.builder.book ≡ l.initial.builder.book;
}
