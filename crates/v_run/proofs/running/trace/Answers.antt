use Rattle.std.proofs.Common.{◌<◌, ◌≤◌, ◌++◌, ◌∙◌, ap, arith, [], ◌∷◌, length}
use Rattle.v_core.specs.Cores.{design_in}
use Rattle.v_meaning.specs.Designs.{InAnyOrder, InTextOrder, first_store}
use Rattle.v_run.proofs.Reached.{each_in_any_order, each_more, reaches_next, reaches_none, runs_under}
use Rattle.v_run.proofs.Words.{cycles_more}
use Rattle.v_run.proofs.running.trace.Goals as goal

pub loop-i-init : goal.loop-i-init
loop-i-init c = record {
  same = c.in_ok-machine.ensures.core;
  fit = rw c.new-cycles.ensures tt;
  reaches = (
    [],
    tt,
    reaches_none (design_in c.args.core.now) (first_store (design_in c.args.core.now).firsts c.args.choices.now.first) c.in_ok-machine.machine.store c.new-cycles.result
        c.new-cycles.ensures (c.in_ok-machine.ensures.store ∙ ap (first_store (design_in c.args.core.now).firsts) c.as_slice.ensures),
  );
}

pub loop-i-preserved : goal.loop-i-preserved
loop-i-preserved c =
    let within : c.loop-i.i < length c.args.stimulus.now.cycles = omega arith in
    let before = c.loop-i.invariant.reaches in
    let shows = c.in_ok-words.ensures.shows in
    record {
      same = c.cycle.ensures.same;
      fit = cycles_more _ c.loop-i.cycles c.push.new.self c.in_ok-words.words c.in_ok-push.ensures.ok c.loop-i.invariant.fit c.in_ok-words.ensures.fits;
      reaches = (
        before.0 ++ shows.0 ∷ [],
        each_more InTextOrder before.0 shows.0 before.1 shows.1,
        reaches_next (design_in c.args.core.now) (first_store (design_in c.args.core.now).firsts c.args.choices.now.first) c.loop-i.machine.store c.cycle.new.machine.store c.args.choices.now.cycles before.0
            c.args.stimulus.now.cycles c.loop-i.cycles c.push.new.self c.loop-i.i shows.0 c.in_ok-words.words within c.requires.many c.in_ok-push.ensures.ok before.2 shows.2,
      );
    }

pub returns-clause-runs : goal.returns-clause-runs
returns-clause-runs c =
    let before = c.loop-i.invariant.reaches in
    let past : length c.args.stimulus.now.cycles ≤ c.loop-i.i = omega arith in
    runs_under InTextOrder (design_in c.args.core.now) c.args.choices.now before.0 c.args.stimulus.now.cycles c.loop-i.cycles c.loop-i.machine.store c.loop-i.i past c.requires.many before.1 before.2

pub returns-clause-every : goal.returns-clause-every
returns-clause-every c =
    let before = c.loop-i.invariant.reaches in
    let past : length c.args.stimulus.now.cycles ≤ c.loop-i.i = omega arith in
    runs_under InAnyOrder (design_in c.args.core.now) c.args.choices.now before.0 c.args.stimulus.now.cycles c.loop-i.cycles c.loop-i.machine.store c.loop-i.i past c.requires.many
    (each_in_any_order before.0) before.2
