use Rattle.v_weight.proofs.operators.shifted.Goals as goal

pub returns-clause-stands : goal.returns-clause-stands
returns-clause-stands c s t p q = record {
  width = p.width;
  weight = c.plus-2.ensures _ _ (c.plus.ensures _ _ (c.amount_weight-amount.ensures _ q.width) p.weight) (c.constant-by.ensures _ (c.own.ensures t q));
}
