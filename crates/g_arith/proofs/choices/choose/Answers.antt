use Rattle.std.proofs.Common.{arith, rules}
use Rattle.g_arith.proofs.Growth.{adds_further, adds_none, one_there}
use Rattle.g_arith.proofs.Choosing.{chosen_none, chosen_more, chosen_all}
use Rattle.g_arith.proofs.choices.choose.Goals as goal

pub choose_bit-requires-clause-first : goal.choose_bit-requires-clause-first
choose_bit-requires-clause-first g c = one_there _ _ c.args.x.now c.loop-i.i c.loop-i.invariant.adds c.requires.first c.loop-i-test.true

pub choose_bit-requires-clause-second : goal.choose_bit-requires-clause-second
choose_bit-requires-clause-second g c = one_there _ _ c.args.y.now c.loop-i.i c.loop-i.invariant.adds c.requires.second (omega arith)

pub returns-in_err-literal-clause-adds : goal.returns-in_err-literal-clause-adds
returns-in_err-literal-clause-adds g c = adds_further _ _ _ c.loop-i.invariant.adds c.in_err-literal.ensures.adds

pub returns-in_err-push-clause-adds : goal.returns-in_err-push-clause-adds
returns-in_err-push-clause-adds g c = adds_further _ _ _ c.loop-i.invariant.adds c.in_ok-literal.ensures.adds

pub loop-i-init : goal.loop-i-init
loop-i-init g c = record {
  number = rw c.new-bits.ensures (chosen_none c.args.builder.now.part c.args.condition c.args.x.now c.args.y.now);
  adds = adds_none c.args.builder.now.part;
  book = search rules;
}

pub loop-i-preserved : goal.loop-i-preserved
loop-i-preserved g c = record {
  number = rw c.in_ok-push.ensures.ok
      (chosen_more _ _ _ c.args.condition c.args.x.now c.args.y.now _ c.loop-i.i _ c.loop-i.invariant.adds c.in_ok-literal.ensures.adds c.requires.condition c.loop-i-test.true c.requires.same_width c.requires.first c.requires.second
      c.loop-i.invariant.number c.in_ok-literal.ensures.bit);
  adds = adds_further _ _ _ c.loop-i.invariant.adds c.in_ok-literal.ensures.adds;
  book = search rules;
}

pub returns-clause-number : goal.returns-clause-number
returns-clause-number g c = chosen_all c.args.builder.now.part _ c.args.condition c.args.x.now c.args.y.now _ c.loop-i.i (omega arith) c.requires.same_width c.loop-i.invariant.number
