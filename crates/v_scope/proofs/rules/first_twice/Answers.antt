use Rattle.v_scope.proofs.Judging.{twice_begins, twice_next, twice_ends}
use Rattle.v_scope.proofs.rules.first_twice.Goals as goal

pub loop-occurrence-init : goal.loop-occurrence-init
loop-occurrence-init c names = twice_begins names _ _ c.no_names-met.ensures

pub loop-occurrence-preserved : goal.loop-occurrence-preserved
loop-occurrence-preserved c names =
    twice_next names _ _ _ _ _ _ _ _ c.loop-occurrence-test.true c.occurrence-item.is (c.declared.ensures names) c.in_ok-first.ensures (c.loop-occurrence.invariant names)

pub returns : goal.returns
returns c names = twice_ends names _ _ _ _ c.loop-occurrence-test.false (c.loop-occurrence.invariant names)
