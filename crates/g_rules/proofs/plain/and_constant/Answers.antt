use Rattle.std.proofs.Common.{rules}
use Rattle.g_rules.proofs.AndRules.{and_constant_keeps}
use Rattle.g_rules.proofs.plain.and_constant.Goals as goal

pub returns-then-b-eq0-clause-keeps : goal.returns-then-b-eq0-clause-keeps
returns-then-b-eq0-clause-keeps c = and_constant_keeps _ _ (search rules)

pub returns-then-a-eq1-clause-keeps : goal.returns-then-a-eq1-clause-keeps
returns-then-a-eq1-clause-keeps c = and_constant_keeps _ _ (search rules)

pub returns-then-b-eq1-clause-keeps : goal.returns-then-b-eq1-clause-keeps
returns-then-b-eq1-clause-keeps c = and_constant_keeps _ _ (search rules)
