use Rattle.std.proofs.Common.{rules}
use Rattle.g_rules.proofs.DeepRight.{xor_cancel_keeps}
use Rattle.g_rules.proofs.deep.xor_cancel.Goals as goal

pub returns-in-Xor-clause-keeps : goal.returns-in-Xor-clause-keeps
returns-in-Xor-clause-keeps c = xor_cancel_keeps _ _ (search rules)
