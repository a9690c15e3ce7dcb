use Rattle.std.proofs.Common.{rules}
use Rattle.g_rules.proofs.XorRules.{xor_order_keeps}
use Rattle.g_rules.proofs.plain.xor_order.Goals as goal

pub returns-then-b-a-clause-keeps : goal.returns-then-b-a-clause-keeps
returns-then-b-a-clause-keeps c = xor_order_keeps _ _ (search rules)
