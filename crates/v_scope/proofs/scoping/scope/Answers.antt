use Rattle.v_scope.proofs.Faults.{sliced, twice_first, early_first, wrong_first, wrong_at, wrong_nowhere}
use Rattle.v_scope.proofs.scoping.scope.Goals as goal

pub returns-in-Some-clause-refused : goal.returns-in-Some-clause-refused
returns-in-Some-clause-refused c =
    rw c.broken.ensures (twice_first c.args.module.now _ _ _ (sliced c.args.module.now _ _ c.as_slice-all.ensures.value c.in_ok-found.ensures) c.in_ok-at.ensures c.in-Some.is)

pub returns-in-Some-2-clause-refused : goal.returns-in-Some-2-clause-refused
returns-in-Some-2-clause-refused c =
    rw c.broken-in-Some-2.ensures
    (early_first c.args.module.now _ _ _ _ (sliced c.args.module.now _ _ c.as_slice-all.ensures.value c.in_ok-found.ensures) c.in_ok-at.ensures c.in_ok-at-2.ensures c.in_default.is c.in-Some-2.is)

pub returns-in-Some-first_wrong_number-clause-refused : goal.returns-in-Some-first_wrong_number-clause-refused
returns-in-Some-first_wrong_number-clause-refused c =
    rw c.broken-in-Some-first_wrong_number.ensures
    (wrong_at _ _ _
    (wrong_first c.args.module.now _ _ _ _ (sliced c.args.module.now _ _ c.as_slice-all.ensures.value c.in_ok-found.ensures) c.in_ok-at.ensures c.in_ok-at-2.ensures c.first_wrong_number.ensures c.in_default.is c.in_default-2.is)
    c.in-Some-first_wrong_number.is)

pub returns-clause-accepted : goal.returns-clause-accepted
returns-clause-accepted c =
    wrong_nowhere _ _
    (wrong_first c.args.module.now _ _ _ _ (sliced c.args.module.now _ _ c.as_slice-all.ensures.value c.in_ok-found.ensures) c.in_ok-at.ensures c.in_ok-at-2.ensures c.first_wrong_number.ensures c.in_default.is c.in_default-2.is)
    c.in-None.is
