use Rattle.v_weight.proofs.Saturating.{same_refl}
use Rattle.v_weight.proofs.operators.logical.Goals as goal

pub returns-clause-stands : goal.returns-clause-stands
returns-clause-stands c s t p q =
    c.itself.ensures.stands _ _ (same_refl 1) (c.plus-2.ensures _ _ (c.plus.ensures _ _ (c.plus-widths.ensures _ _ p.width q.width) (c.own-left.ensures s p)) (c.own-right.ensures t q))
