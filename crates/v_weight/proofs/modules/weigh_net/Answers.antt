use Rattle.v_weight.proofs.modules.weigh_net.Goals as goal

pub returns : goal.returns
returns c sound =
    c.plus.ensures _ _ c.width-width.ensures
    (c.at.ensures _ _ (c.in_ok-x.ensures sound).stands.weight (c.greater-common.ensures _ _ c.width-width.ensures (c.in_ok-x.ensures sound).stands.width))
