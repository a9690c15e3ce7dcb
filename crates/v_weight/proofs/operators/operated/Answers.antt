use Rattle.v_weight.proofs.Choices.{of_class}
use Rattle.v_weight.proofs.operators.operated.Goals as goal

pub returns-in-Shared-clause-stands : goal.returns-in-Shared-clause-stands
returns-in-Shared-clause-stands c = of_class _ _ _ _ _ _ c.in-Shared.ensures c.shared.ensures.stands

pub returns-in-Compared-clause-stands : goal.returns-in-Compared-clause-stands
returns-in-Compared-clause-stands c = of_class _ _ _ _ _ _ c.in-Compared.ensures c.compared.ensures.stands

pub returns-in-Shifted-clause-stands : goal.returns-in-Shifted-clause-stands
returns-in-Shifted-clause-stands c = of_class _ _ _ _ _ _ c.in-Shifted.ensures c.shifted.ensures.stands

pub returns-in-Logical-clause-stands : goal.returns-in-Logical-clause-stands
returns-in-Logical-clause-stands c = of_class _ _ _ _ _ _ c.in-Logical.ensures c.logical.ensures.stands
