use Rattle.v_rules.proofs.Shared.{shared_begins, shared_next, shared_ends, own_is}
use Rattle.v_rules.proofs.variables.meet_blocking.Goals as goal

pub loop-process-init : goal.loop-process-init
loop-process-init c m s = shared_begins _ _ _ m s

pub loop-process-preserved : goal.loop-process-preserved
loop-process-preserved c m s =
    shared_next _ _ _ _ _ _ _ _ _ _ c.loop-process-test.true c.process-item.is (own_is c.process-item.result _ _ _ c.as_slice.ensures c.deref.ensures.value c.in_ok-blocking.ensures) (own_is c.process-item.result _ _ _ c.as_slice.ensures c.deref-in-loop-process.ensures.value c.in_ok-blocking.ensures)
    c.in_ok-share_each.ensures c.in_ok-meet_each.ensures (c.loop-process.invariant m s)

pub returns : goal.returns
returns c m s = shared_ends _ _ _ _ c.loop-process-test.false (c.loop-process.invariant m s)
