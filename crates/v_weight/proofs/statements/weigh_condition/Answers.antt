use Rattle.v_weight.proofs.statements.weigh_condition.Goals as goal

pub returns : goal.returns
returns c sound = c.plus.ensures _ _ (c.in_ok-x.ensures sound).stands.width (c.own.ensures _ (c.in_ok-x.ensures sound).stands)
