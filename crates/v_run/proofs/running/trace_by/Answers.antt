use Rattle.std.proofs.Common.{◌<◌, ◌≤◌, ◌∙◌, ap, arith, length, take, Err}
use Rattle.std.proofs.lemmas.Result.{err_from_is_err_and}
use Rattle.v_core.specs.Cores.{design_in}
use Rattle.v_meaning.specs.Designs.{InAnyOrder, first_store}
use Rattle.v_run.proofs.Reached.{each_in_any_order, is_halted, none_runs, reaches_next_by, runs_by, runs_under}
use Rattle.v_run.proofs.Words.{cycles_more, fault_passed}
use Rattle.v_run.proofs.running.trace_by.Goals as goal

pub returns-in_err-words-clause-fault : goal.returns-in_err-words-clause-fault
returns-in_err-words-clause-fault c =
    let within : c.loop-i.i < length c.args.stimulus.now.cycles = omega arith in
    let p = err_from_is_err_and c.from_residual-in_err-words.result c.from_residual-in_err-words.ensures.1 in
    fault_passed _ _ c.from_residual-in_err-words.result c.in_err-words.field-0.0 (p.1 ∙ ap Err p.2) c.in_err-words.ensures.halts
    (λ fault halts. is_halted (design_in c.args.core.now) c.loop-i.machine.store c.args.choices.now c.args.schedules.now c.args.stimulus.now.cycles c.loop-i.cycles c.loop-i.i fault within
    c.loop-i.invariant.reaches halts)

pub returns-in_err-words-clause-refused : goal.returns-in_err-words-clause-refused
returns-in_err-words-clause-refused c =
    let within : c.loop-i.i < length c.args.stimulus.now.cycles = omega arith in
    let p = err_from_is_err_and c.from_residual-in_err-words.result c.from_residual-in_err-words.ensures.1 in
    fault_passed _ _ c.from_residual-in_err-words.result c.in_err-words.field-0.0 (p.1 ∙ ap Err p.2) c.in_err-words.ensures.halts
    (λ fault halts trace run. none_runs (design_in c.args.core.now) c.loop-i.machine.store c.args.choices.now c.args.schedules.now c.args.stimulus.now.cycles c.loop-i.cycles trace c.loop-i.i fault within
    c.loop-i.invariant.reaches halts run)

pub loop-i-preserved : goal.loop-i-preserved
loop-i-preserved c =
    let within : c.loop-i.i < length c.args.stimulus.now.cycles = omega arith in
    record {
      same = c.cycle_by.ensures.same;
      fit = cycles_more _ c.loop-i.cycles c.push.new.self c.in_ok-words.words c.in_ok-push.ensures.ok c.loop-i.invariant.fit c.in_ok-words.ensures.fits;
      reaches = reaches_next_by (design_in c.args.core.now) (first_store (design_in c.args.core.now).firsts c.args.choices.now.first) c.loop-i.machine.store c.cycle_by.new.machine.store c.args.choices.now.cycles
          c.args.schedules.now c.args.stimulus.now.cycles c.loop-i.cycles c.push.new.self c.loop-i.i c.in_ok-words.words within c.requires.many c.requires.schedules c.in_ok-push.ensures.ok
          c.loop-i.invariant.reaches c.in_ok-words.ensures.shows;
    }

pub returns-clause-runs : goal.returns-clause-runs
returns-clause-runs c =
    let past : length c.args.stimulus.now.cycles ≤ c.loop-i.i = omega arith in
    runs_by (design_in c.args.core.now) c.args.choices.now c.args.schedules.now c.args.stimulus.now.cycles c.loop-i.cycles c.loop-i.machine.store c.loop-i.i past c.requires.many c.requires.schedules
    c.loop-i.invariant.reaches

pub returns-clause-every : goal.returns-clause-every
returns-clause-every c =
    let past : length c.args.stimulus.now.cycles ≤ c.loop-i.i = omega arith in
    runs_under InAnyOrder (design_in c.args.core.now) c.args.choices.now (take c.loop-i.i c.args.schedules.now) c.args.stimulus.now.cycles c.loop-i.cycles c.loop-i.machine.store c.loop-i.i past
    c.requires.many (each_in_any_order (take c.loop-i.i c.args.schedules.now)) c.loop-i.invariant.reaches
