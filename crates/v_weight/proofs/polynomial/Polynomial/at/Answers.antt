use Rattle.v_weight.proofs.Saturating.{same_refl, same_trans}
use Rattle.v_weight.proofs.polynomial.Polynomial.at.Goals as goal

pub returns : goal.returns
returns c f n p q =
    same_trans _ _ _
    (c.plus-2.ensures _ _ (c.plus.ensures _ _ (same_refl _) (c.times-linear.ensures _ _ (same_refl _) q)) (c.times-square.ensures _ _ (same_refl _) (c.times-squared.ensures _ _ q q)))
    (p.at n)
