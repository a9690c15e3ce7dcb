use Rattle.v_scope.proofs.Judging.{early_begins, early_next, early_ends}
use Rattle.v_scope.proofs.rules.first_among.Goals as goal

pub loop-occurrence-init : goal.loop-occurrence-init
loop-occurrence-init c names ks ps k p = early_begins names ks ps _ _ c.no_names-ended.ensures

pub loop-occurrence-preserved : goal.loop-occurrence-preserved
loop-occurrence-preserved c names ks ps k p =
    early_next names ks ps _ _ _ _ _ _ _ _ _ c.loop-occurrence-test.true c.occurrence-item.is (c.used.ensures names) (c.valued.ensures names) (λ es m. c.note_used-first.ensures ks ps es k p m) c.in_ok-meet_some.ensures
    (c.loop-occurrence.invariant names ks ps k p)

pub returns : goal.returns
returns c names ks ps k p = early_ends names ks ps _ _ _ _ c.loop-occurrence-test.false (c.loop-occurrence.invariant names ks ps k p)
