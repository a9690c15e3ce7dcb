use Rattle.g_build.proofs.Sums.{same_itself, same_first}
use Rattle.g_build.proofs.sum.first_two.Goals as goal

pub returns-then-b-a : goal.returns-then-b-a
returns-then-b-a c = same_first c.args.trio

pub returns-else-b-a : goal.returns-else-b-a
returns-else-b-a c = same_itself c.args.trio
