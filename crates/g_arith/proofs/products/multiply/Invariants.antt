-- So far the product is that of the low part of the first word and the high part of the second, of one length.
use Rattle.std.proofs.Common.{◌≡◌, ◌-◌, length, take, drop}
use Rattle.g_arith.specs.Products.{multiplied}
use Rattle.g_arith.specs.Words.{Adds, HasNumber, number_in}
use Rattle.g_arith.proofs.products.multiply.Given as goal

abbrev pub invariant-loop-i : goal.invariant-loop-i
invariant-loop-i g l = record {
  number : HasNumber l.builder.part l.product l.i (λ sources. multiplied l.i (number_in l.initial.builder.part sources (take l.i l.x)) (number_in l.initial.builder.part sources (drop (length l.x - l.i) l.y)));
  adds : Adds l.initial.builder.part l.builder.part;
  book : l.builder.book ≡ l.initial.builder.book;
}
