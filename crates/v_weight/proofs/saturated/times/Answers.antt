use Rattle.v_weight.proofs.Saturating.{same_stopped, same_trans, same_product}
use Rattle.v_weight.proofs.saturated.times.Goals as goal

pub returns : goal.returns
returns c m n p q = same_trans _ _ _ (same_stopped _ _ c.saturating_mul.ensures) (same_product _ _ _ _ p q)
