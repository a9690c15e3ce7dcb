use Rattle.g_build.proofs.Sums.{same_itself, same_last}
use Rattle.g_build.proofs.sum.last_two.Goals as goal

pub returns-then-c-b : goal.returns-then-c-b
returns-then-c-b c = same_last c.args.trio

pub returns-else-c-b : goal.returns-else-c-b
returns-else-c-b c = same_itself c.args.trio
