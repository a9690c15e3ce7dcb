use Rattle.v_weight.proofs.Saturating.{same_refl}
use Rattle.v_weight.proofs.operators.reduced.Goals as goal

pub returns-clause-stands : goal.returns-clause-stands
returns-clause-stands c s p = c.itself.ensures.stands _ _ (same_refl 1) (c.plus.ensures _ _ p.width (c.own.ensures s p))
