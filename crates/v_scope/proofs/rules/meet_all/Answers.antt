use Rattle.v_scope.proofs.Judging.{names_begin, names_next, names_end}
use Rattle.v_scope.proofs.rules.meet_all.Goals as goal

pub loop-occurrence-init : goal.loop-occurrence-init
loop-occurrence-init c names d p = names_begin names _ _ _ d p

pub loop-occurrence-preserved : goal.loop-occurrence-preserved
loop-occurrence-preserved c names d p =
    names_next names _ _ _ _ _ _ _ _ _ c.loop-occurrence-test.true c.occurrence-item.is (c.declared.ensures names) (c.valued.ensures names) c.in_ok-meet_some.ensures c.in_ok-meet_some-2.ensures (c.loop-occurrence.invariant names d p)

pub returns : goal.returns
returns c d p names = names_end names _ _ _ _ c.loop-occurrence-test.false (c.loop-occurrence.invariant names d p)
