use Rattle.std.proofs.Common.{◌*◌, arith, rules, ap, sym, ◌∙◌}
use Rattle.g_arith.proofs.Growth.{adds_further, adds_none, one_there}
use Rattle.g_arith.proofs.Numbers.{two_more}
use Rattle.g_arith.proofs.Shifting.{stages_none, stages_step, stages_all}
use Rattle.g_arith.proofs.shifts.by_stages.Goals as goal

pub loop-i-init : goal.loop-i-init
loop-i-init g c = record {
  number = stages_none c.args.builder.now.part c.args.left c.args.fill c.args.x.now c.args.amount.now _ c.in_ok-word.ensures c.requires.word;
  adds = adds_none c.args.builder.now.part;
  book = search rules;
  places = search rules;
}

pub choose-requires-clause-condition : goal.choose-requires-clause-condition
choose-requires-clause-condition g c = one_there _ _ c.args.amount.now c.loop-i.i c.loop-i.invariant.adds c.requires.amount c.loop-i-test.true

pub returns-clause-number : goal.returns-clause-number
returns-clause-number g c = stages_all c.args.builder.now.part _ c.args.left c.args.fill c.args.x.now c.args.amount.now _ c.loop-i.i (omega arith) c.loop-i.invariant.number

pub returns-in_err-word-2-clause-adds : goal.returns-in_err-word-2-clause-adds
returns-in_err-word-2-clause-adds g c = adds_further _ _ _ c.loop-i.invariant.adds c.in_err-word-2.ensures.adds

pub loop-i-preserved : goal.loop-i-preserved
loop-i-preserved g c = record {
  number =
      stages_step c.args.builder.now.part c.loop-i.builder.part _ c.args.left c.args.fill c.loop-i.places c.args.x.now c.args.amount.now c.loop-i.word c.as_slice.result.now c.as_slice-in-loop-i-2.result.now c.in_ok-moved.moved
      c.as_slice-in-loop-i.result.now _ c.loop-i.i c.loop-i.invariant.adds c.in_ok-word-2.ensures.adds c.requires.fill c.requires.amount c.loop-i-test.true c.loop-i.invariant.places c.as_slice.ensures c.in_ok-moved.ensures
      c.as_slice-in-loop-i.ensures c.as_slice-in-loop-i-2.ensures c.loop-i.invariant.number c.in_ok-word-2.ensures.number;
  adds = adds_further _ _ _ c.loop-i.invariant.adds c.in_ok-word-2.ensures.adds;
  book = search rules;
  places = ap (λ k. 2 * k) c.loop-i.invariant.places ∙ sym (two_more c.loop-i.i);
}
