use Rattle.v_weight.proofs.Saturating.{same_refl}
use Rattle.v_weight.proofs.statements.weigh_assignment.Goals as goal

pub returns : goal.returns
returns c left right d deep =
    c.plus-2.ensures _ _
    (c.plus.ensures _ _ (c.times-writes.ensures _ _ (c.in_ok-target.ensures left).size (c.plus-levels.ensures _ _ deep (same_refl 1))) (c.in_ok-target.ensures left).indices)
    (c.at-right.ensures _ _ (c.in_ok-value.ensures right).stands.weight (c.greater-width.ensures _ _ (c.in_ok-target.ensures left).width (c.in_ok-value.ensures right).stands.width))
