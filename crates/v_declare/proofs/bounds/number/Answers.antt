use Rattle.v_declare.proofs.bounds.number.Goals as goal

pub returns-clause-number : goal.returns-clause-number
returns-clause-number c = c.number.ensures _ _ c.in_ok-constant.ensures.constant
