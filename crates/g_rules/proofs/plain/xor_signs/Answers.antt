use Rattle.std.proofs.Common.{rules}
use Rattle.g_rules.proofs.XorRules.{xor_signs_keeps}
use Rattle.g_rules.proofs.plain.xor_signs.Goals as goal

pub returns-then-is_inverse-2-clause-keeps : goal.returns-then-is_inverse-2-clause-keeps
returns-then-is_inverse-2-clause-keeps c = xor_signs_keeps _ _ (search rules)
