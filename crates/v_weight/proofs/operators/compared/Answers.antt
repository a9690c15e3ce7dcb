use Rattle.v_weight.proofs.Saturating.{same_refl}
use Rattle.v_weight.proofs.operators.compared.Goals as goal

pub returns-clause-stands : goal.returns-clause-stands
returns-clause-stands c s t p q =
    c.itself.ensures.stands _ _ (same_refl 1)
    (c.plus-2.ensures _ _ (c.plus.ensures _ _ (c.greater-width.ensures _ _ p.width q.width) (c.at-left.ensures s.at _ p.weight (c.greater-width.ensures _ _ p.width q.width)))
    (c.at-right.ensures t.at _ q.weight (c.greater-width.ensures _ _ p.width q.width)))
