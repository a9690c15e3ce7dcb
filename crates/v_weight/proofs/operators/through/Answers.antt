use Rattle.v_weight.proofs.operators.through.Goals as goal

pub returns-clause-stands : goal.returns-clause-stands
returns-clause-stands c s p = record { width = p.width; weight = c.plus.ensures _ _ c.width.ensures p.weight }
