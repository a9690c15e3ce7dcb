use Rattle.std.proofs.Common.{rules}
use Rattle.g_rules.proofs.XorRules.{xor_same_keeps}
use Rattle.g_rules.proofs.plain.xor_same.Goals as goal

pub returns-then-a-b-clause-keeps : goal.returns-then-a-b-clause-keeps
returns-then-a-b-clause-keeps c = xor_same_keeps _ _ (search rules)

pub returns-then-a-inverse-clause-keeps : goal.returns-then-a-inverse-clause-keeps
returns-then-a-inverse-clause-keeps c = xor_same_keeps _ _ (search rules)
