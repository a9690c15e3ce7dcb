use Rattle.std.proofs.Common.{rules}
use Rattle.g_rules.proofs.DeepRight.{and_subsume_keeps}
use Rattle.g_rules.proofs.deep.and_subsume.Goals as goal

pub returns-in-And-clause-keeps : goal.returns-in-And-clause-keeps
returns-in-And-clause-keeps c = and_subsume_keeps _ _ (search rules)
