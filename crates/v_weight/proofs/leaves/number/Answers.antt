use Rattle.v_weight.proofs.Saturating.{same_refl}
use Rattle.v_weight.proofs.leaves.number.Goals as goal

pub returns-clause-stands : goal.returns-clause-stands
returns-clause-stands c right = c.itself.ensures.stands _ _ (c.number_width.ensures right) (same_refl 0)
