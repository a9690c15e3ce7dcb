use Rattle.std.proofs.Common.{sym, ◌∙◌}
use Rattle.v_weight.proofs.Choices.{of_way}
use Rattle.v_weight.proofs.operators.prefixed.Goals as goal

pub returns-then-is_through-clause-stands : goal.returns-then-is_through-clause-stands
returns-then-is_through-clause-stands c = of_way _ _ _ _ (sym c.if-is_through.true ∙ c.is_through.ensures) c.through.ensures.stands

pub returns-else-is_through-clause-stands : goal.returns-else-is_through-clause-stands
returns-else-is_through-clause-stands c = of_way _ _ _ _ (sym c.if-is_through.false ∙ c.is_through.ensures) c.reduced.ensures.stands
