use Rattle.v_weight.proofs.Saturating.{same_refl}
use Rattle.v_weight.proofs.leaves.name.Goals as goal

pub returns-clause-stands : goal.returns-clause-stands
returns-clause-stands c = c.itself.ensures.stands _ _ c.width.ensures (same_refl 0)
