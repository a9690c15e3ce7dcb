use Rattle.std.proofs.Common.{◌+◌, refl, sym, ap, ◌∙◌, arith, take}
use Rattle.std.proofs.lemmas.List.{length-take-le}
use Rattle.g_net.specs.Network.{node_count}
use Rattle.g_arith.proofs.Growth.{adds_none, adds_further, no_output, all_there}
use Rattle.g_arith.proofs.Rows.{product_none, product_more, product_whole, take_there, digit_there}
use Rattle.g_arith.proofs.products.multiply.Goals as goal

pub loop-i-init : goal.loop-i-init
loop-i-init g c = record {
  number = rw c.new-product.ensures (product_none c.args.builder.now.part c.args.x.now c.args.y.now);
  adds = adds_none c.args.builder.now.part;
  book = refl;
}

pub masked-requires-clause-no_output : goal.masked-requires-clause-no_output
masked-requires-clause-no_output g c = no_output c.args.builder.now.part c.loop-i.builder.part c.loop-i.invariant.adds.builds c.requires.no_output

pub masked-requires-clause-word : goal.masked-requires-clause-word
masked-requires-clause-word g c =
    all_there c.args.builder.now.part c.loop-i.builder.part (take (c.loop-i.i + 1) c.args.x.now) c.loop-i.invariant.adds.builds (take_there (node_count c.args.builder.now.part) (c.loop-i.i + 1) c.args.x.now c.requires.first)

pub masked-requires-clause-bit : goal.masked-requires-clause-bit
masked-requires-clause-bit g c =
    digit_there c.args.builder.now.part c.loop-i.builder.part c.args.x.now c.args.y.now c.loop-i.i c.loop-i.invariant.adds c.loop-i-test.true c.requires.same_width c.requires.second

pub returns-in_err-row-clause-adds : goal.returns-in_err-row-clause-adds
returns-in_err-row-clause-adds g c = adds_further c.args.builder.now.part c.loop-i.builder.part c.masked.new.builder.part c.loop-i.invariant.adds c.masked.ensures.adds

pub with_above-requires-clause-no_output : goal.with_above-requires-clause-no_output
with_above-requires-clause-no_output g c =
    let adds = adds_further c.args.builder.now.part c.loop-i.builder.part c.masked.new.builder.part c.loop-i.invariant.adds c.masked.ensures.adds in
    no_output c.args.builder.now.part c.masked.new.builder.part adds.builds c.requires.no_output

pub with_above-requires-clause-same_width : goal.with_above-requires-clause-same_width
with_above-requires-clause-same_width g c = rw (c.as_slice.ensures, c.as_slice-in-loop-i.ensures)
    (c.in_ok-row.ensures.number.long ∙ length-take-le (c.loop-i.i + 1) c.args.x.now (omega (arith, c.loop-i-test.true)) ∙ ap (λ k. k + 1) (sym c.loop-i.invariant.number.long))

pub with_above-requires-clause-above : goal.with_above-requires-clause-above
with_above-requires-clause-above g c =
    rw c.as_slice-in-loop-i.ensures (all_there c.loop-i.builder.part c.masked.new.builder.part c.loop-i.product c.masked.ensures.adds.builds c.loop-i.invariant.number.there)

pub returns-in_err-product-clause-adds : goal.returns-in_err-product-clause-adds
returns-in_err-product-clause-adds g c =
    adds_further c.args.builder.now.part c.masked.new.builder.part c.with_above.new.builder.part
    (adds_further c.args.builder.now.part c.loop-i.builder.part c.masked.new.builder.part c.loop-i.invariant.adds c.masked.ensures.adds) c.with_above.ensures.adds

pub loop-i-preserved : goal.loop-i-preserved
loop-i-preserved g c = record {
  number = product_more c.args.builder.now.part c.loop-i.builder.part c.masked.new.builder.part c.with_above.new.builder.part c.args.x.now c.args.y.now c.loop-i.i
      c.as_slice-in-loop-i.result.now c.as_slice.result.now c.in_ok-product.product c.loop-i-test.true c.requires.same_width c.requires.first c.requires.second
      c.loop-i.invariant.adds.builds c.masked.ensures.adds.builds c.with_above.ensures.adds.builds
      (rw c.as_slice-in-loop-i.ensures c.loop-i.invariant.number) (rw c.as_slice.ensures c.in_ok-row.ensures.number) c.in_ok-product.ensures.number;
  adds = adds_further c.args.builder.now.part c.masked.new.builder.part c.with_above.new.builder.part
      (adds_further c.args.builder.now.part c.loop-i.builder.part c.masked.new.builder.part c.loop-i.invariant.adds c.masked.ensures.adds) c.with_above.ensures.adds;
  book = c.with_above.ensures.book ∙ c.masked.ensures.book ∙ c.loop-i.invariant.book;
}

pub returns-clause-number : goal.returns-clause-number
returns-clause-number g c =
    product_whole c.args.builder.now.part c.loop-i.builder.part c.args.x.now c.args.y.now c.loop-i.i c.loop-i.product (omega (arith, c.loop-i-test.false, c.loop-i.auto.i-end)) c.loop-i.invariant.number
