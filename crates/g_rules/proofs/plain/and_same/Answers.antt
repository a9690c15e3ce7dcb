use Rattle.std.proofs.Common.{rules}
use Rattle.g_rules.proofs.AndRules.{and_same_keeps}
use Rattle.g_rules.proofs.plain.and_same.Goals as goal

pub returns-then-a-inverse-clause-keeps : goal.returns-then-a-inverse-clause-keeps
returns-then-a-inverse-clause-keeps c = and_same_keeps _ _ (search rules)
