use Rattle.std.proofs.Common.{refl, ◌∙◌, arith, slice_index_or}
use Rattle.g_net.specs.Network.{node_count}
use Rattle.g_arith.proofs.Growth.{adds_none, adds_more, no_output, one_there, there_still}
use Rattle.g_arith.proofs.Rows.{masked_none, masked_more, masked_whole, two_there}
use Rattle.g_arith.proofs.products.masked.Goals as goal

pub loop-i-init : goal.loop-i-init
loop-i-init g c = record {
  number = rw c.new-bits.ensures (masked_none c.args.builder.now.part c.args.word.now c.args.bit);
  adds = adds_none c.args.builder.now.part;
  book = refl;
}

pub gate-requires-clause-no_output : goal.gate-requires-clause-no_output
gate-requires-clause-no_output g c = no_output c.args.builder.now.part c.loop-i.builder.part c.loop-i.invariant.adds.builds c.requires.no_output

pub gate-requires-clause-there : goal.gate-requires-clause-there
gate-requires-clause-there g c =
    two_there (node_count c.loop-i.builder.part) (slice_index_or c.args.word.now c.loop-i.i 0) c.args.bit
    (one_there c.args.builder.now.part c.loop-i.builder.part c.args.word.now c.loop-i.i c.loop-i.invariant.adds c.requires.word c.loop-i-test.true)
    (there_still c.args.builder.now.part c.loop-i.builder.part c.args.bit c.loop-i.invariant.adds.builds c.requires.bit)

pub returns-in_err-masked-clause-adds : goal.returns-in_err-masked-clause-adds
returns-in_err-masked-clause-adds g c = rw c.in_err-masked.ensures.err c.loop-i.invariant.adds

pub returns-in_err-push-clause-adds : goal.returns-in_err-push-clause-adds
returns-in_err-push-clause-adds g c = adds_more c.args.builder.now.part c.loop-i.builder.part c.gate.new.self.part c.loop-i.invariant.adds c.in_ok-masked.ensures.builds c.in_ok-masked.ensures.differ

pub loop-i-preserved : goal.loop-i-preserved
loop-i-preserved g c =
    let adds = adds_more c.args.builder.now.part c.loop-i.builder.part c.gate.new.self.part c.loop-i.invariant.adds c.in_ok-masked.ensures.builds c.in_ok-masked.ensures.differ in
    record {
      number = rw c.in_ok-push.ensures.ok (masked_more c.args.builder.now.part c.loop-i.builder.part c.gate.new.self.part c.args.word.now c.args.bit c.loop-i.i c.loop-i.bits c.in_ok-masked.masked
          c.loop-i.invariant.adds.builds c.in_ok-masked.ensures.builds adds.builds c.loop-i-test.true c.requires.word c.requires.bit c.loop-i.invariant.number c.in_ok-masked.ensures.value);
      adds = adds;
      book = c.gate.ensures.book ∙ c.loop-i.invariant.book;
    }

pub returns-clause-number : goal.returns-clause-number
returns-clause-number g c =
    masked_whole c.args.builder.now.part c.loop-i.builder.part c.args.word.now c.args.bit c.loop-i.i c.loop-i.bits (omega (arith, c.loop-i-test.false, c.loop-i.auto.i-end)) c.loop-i.invariant.number
