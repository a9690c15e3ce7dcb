use Rattle.v_weight.proofs.operators.chosen.Goals as goal

pub returns-clause-stands : goal.returns-clause-stands
returns-clause-stands c r s t p q u = record {
  width = c.greater.ensures _ _ q.width u.width;
  weight = c.plus-3.ensures _ _
      (c.plus-2.ensures _ _ (c.plus-choice.ensures _ _ (c.plus.ensures _ _ c.width.ensures (c.constant-width.ensures _ p.width)) (c.constant-condition.ensures _ (c.own.ensures r p))) q.weight)
      u.weight;
}
