use Rattle.std.proofs.Common.{◌≡◌, slice_get, Some, subst, arith}
use Rattle.n_sim.proofs.Steps.{constant_one, constant_zero, extends_more, extends_same, found_holds, put_holds}
use Rattle.n_sim.proofs.making.put.Goals as goal

pub returns-in-Some-clause-extends : goal.returns-in-Some-clause-extends
returns-in-Some-clause-extends c = extends_same c.args.first c.args.steps.now c.requires.back

pub returns-in-Some-clause-holds : goal.returns-in-Some-clause-holds
returns-in-Some-clause-holds c = record {
  there = c.in-Some.ensures.below _ c.requires.there;
  value = λ front is.
      c.in-Some.ensures.value _ (constant_zero c.args.first c.args.steps.now front c.requires.some is) (constant_one c.args.first c.args.steps.now front c.requires.some is);
}

pub returns-in-Some-find-clause-extends : goal.returns-in-Some-find-clause-extends
returns-in-Some-find-clause-extends c = extends_same c.args.first c.args.steps.now c.requires.back

pub returns-in-Some-find-clause-holds : goal.returns-in-Some-find-clause-holds
returns-in-Some-find-clause-holds c =
    found_holds c.args.first c.args.steps.now c.in-Some-find.index c.in_ok-found.found c.args.step c.requires.back
    (subst (λ l. slice_get l c.in-Some-find.index ≡ Some c.args.step) c.as_slice.ensures c.in-Some-find.ensures) c.in_ok-found.ensures

pub returns-clause-extends : goal.returns-clause-extends
returns-clause-extends c = extends_more c.args.first c.args.steps.now c.push.new.self c.args.step c.requires.back c.requires.there c.in_ok-push.ensures.ok

pub returns-clause-holds : goal.returns-clause-holds
returns-clause-holds c =
    put_holds c.args.first c.args.steps.now c.push.new.self c.in_ok-at.at c.args.step
    (extends_more c.args.first c.args.steps.now c.push.new.self c.args.step c.requires.back c.requires.there c.in_ok-push.ensures.ok) c.in_ok-push.ensures.ok (omega (arith, c.in_ok-at.ensures, c.len.ensures))
