use Rattle.std.proofs.Common.{rules}
use Rattle.g_rules.specs.declared.applying.Outcome.TheVariants as outcome
use Rattle.g_rules.proofs.Applied.{leaves_literal, outcome_anywhere}
use Rattle.g_rules.proofs.applying.apply.Goals as goal

pub returns-in-Literal-clause-order : goal.returns-in-Literal-clause-order
returns-in-Literal-clause-order g c = (outcome.Literal c.in-Literal.literal, search rules, leaves_literal _ _ _)

pub returns-in-Literal-clause-right : goal.returns-in-Literal-clause-right
returns-in-Literal-clause-right g c = outcome_anywhere _ _ _ c.in-Literal.ensures.right

pub returns-in-Gate-clause-right : goal.returns-in-Gate-clause-right
returns-in-Gate-clause-right g c = c.apply_deep.ensures.right _ (outcome_anywhere _ _ _ c.in-Gate.ensures.right)
