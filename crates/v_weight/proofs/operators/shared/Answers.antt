use Rattle.v_weight.proofs.operators.shared.Goals as goal

pub returns-clause-stands : goal.returns-clause-stands
returns-clause-stands c s t p q = record {
  width = c.greater.ensures _ _ p.width q.width;
  weight = c.plus-2.ensures _ _ (c.plus.ensures _ _ c.shared_weight.ensures p.weight) q.weight;
}
