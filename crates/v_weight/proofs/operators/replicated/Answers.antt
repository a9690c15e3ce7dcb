use Rattle.v_weight.proofs.operators.replicated.Goals as goal

pub returns-clause-stands : goal.returns-clause-stands
returns-clause-stands c n s p q = record { width = c.times.ensures _ _ p q.width; weight = q.weight }
