use Rattle.std.proofs.Common.{arith, rules}
use Rattle.g_arith.proofs.Growth.{adds_further, adds_none, one_there}
use Rattle.g_arith.proofs.Comparing.{equal_none, equal_more, equal_all}
use Rattle.g_arith.proofs.comparisons.equal.Goals as goal

pub xor-requires-clause-first : goal.xor-requires-clause-first
xor-requires-clause-first g c = one_there _ _ c.args.x.now c.loop-i.i c.loop-i.invariant.adds c.requires.first c.loop-i-test.true

pub xor-requires-clause-second : goal.xor-requires-clause-second
xor-requires-clause-second g c = one_there _ _ c.args.y.now c.loop-i.i c.loop-i.invariant.adds c.requires.second (omega arith)

pub returns-in_err-differ-clause-adds : goal.returns-in_err-differ-clause-adds
returns-in_err-differ-clause-adds g c = adds_further _ _ _ c.loop-i.invariant.adds c.in_err-differ.ensures.adds

pub returns-in_err-same-clause-adds : goal.returns-in_err-same-clause-adds
returns-in_err-same-clause-adds g c = adds_further _ _ _ (adds_further _ _ _ c.loop-i.invariant.adds c.in_ok-differ.ensures.adds) c.in_err-same.ensures.adds

pub loop-i-init : goal.loop-i-init
loop-i-init g c = record {
  equal = equal_none c.args.builder.now.part c.args.x.now c.args.y.now (c.constants.ensures.one c.args.builder.now.part);
  adds = adds_none c.args.builder.now.part;
  book = search rules;
}

pub loop-i-preserved : goal.loop-i-preserved
loop-i-preserved g c = record {
  equal =
      equal_more _ _ _ _ c.args.x.now c.args.y.now c.loop-i.i _ _ _ _ c.complement.ensures.value c.loop-i.invariant.adds c.in_ok-differ.ensures.adds c.in_ok-same.ensures.adds c.loop-i-test.true c.requires.same_width
      c.requires.first c.requires.second c.loop-i.invariant.equal c.in_ok-differ.ensures.bit c.in_ok-same.ensures.bit;
  adds = adds_further _ _ _ (adds_further _ _ _ c.loop-i.invariant.adds c.in_ok-differ.ensures.adds) c.in_ok-same.ensures.adds;
  book = search rules;
}

pub returns-clause-equal : goal.returns-clause-equal
returns-clause-equal g c = equal_all c.args.builder.now.part _ c.args.x.now c.args.y.now c.loop-i.i _ (omega arith) c.requires.same_width c.loop-i.invariant.equal
