use Rattle.v_weight.proofs.operators.recast.Goals as goal

pub returns-clause-stands : goal.returns-clause-stands
returns-clause-stands c s p = c.itself.ensures.stands _ _ p.width (c.own.ensures s p)
