use Rattle.v_weight.proofs.Choices.{if_fixed}
use Rattle.v_weight.proofs.leaves.selected.Goals as goal

pub returns-clause-stands : goal.returns-clause-stands
returns-clause-stands c s p =
    c.itself.ensures.stands _ _ c.selected_width-width.ensures
    (c.plus.ensures _ _ (if_fixed _ _ _ _ c.is_fixed.ensures (c.choice_weight-choice.ensures _ c.size.ensures)) (c.own.ensures s p))
