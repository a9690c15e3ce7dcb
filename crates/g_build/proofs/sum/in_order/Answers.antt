use Rattle.g_build.proofs.Sums.{same_through}
use Rattle.g_build.proofs.sum.in_order.Goals as goal

pub returns : goal.returns
returns c = same_through _ _ _ c.first_two.ensures (same_through _ _ _ c.last_two.ensures c.first_two-2.ensures)
