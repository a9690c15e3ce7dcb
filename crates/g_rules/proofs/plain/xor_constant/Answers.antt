use Rattle.std.proofs.Common.{rules}
use Rattle.g_rules.proofs.XorRules.{xor_constant_keeps}
use Rattle.g_rules.proofs.plain.xor_constant.Goals as goal

pub returns-then-a-eq0-clause-keeps : goal.returns-then-a-eq0-clause-keeps
returns-then-a-eq0-clause-keeps c = xor_constant_keeps _ _ (search rules)

pub returns-then-b-eq0-clause-keeps : goal.returns-then-b-eq0-clause-keeps
returns-then-b-eq0-clause-keeps c = xor_constant_keeps _ _ (search rules)

pub returns-then-a-eq1-clause-keeps : goal.returns-then-a-eq1-clause-keeps
returns-then-a-eq1-clause-keeps c = xor_constant_keeps _ _ (search rules)

pub returns-then-b-eq1-clause-keeps : goal.returns-then-b-eq1-clause-keeps
returns-then-b-eq1-clause-keeps c = xor_constant_keeps _ _ (search rules)
