use Rattle.v_weight.proofs.Saturating.{same_refl}
use Rattle.v_weight.proofs.Adding.{gives_sum}
use Rattle.v_weight.proofs.polynomial.Polynomial.plus.Goals as goal

pub returns : goal.returns
returns c f g p q =
    gives_sum c.args.self c.args.other _ f g (c.plus.ensures _ _ (same_refl _) (same_refl _)) (c.plus-2.ensures _ _ (same_refl _) (same_refl _)) (c.plus-3.ensures _ _ (same_refl _) (same_refl _)) p q
