use Rattle.g_arith.proofs.Adder.{sum_adds}
use Rattle.g_arith.proofs.sums.add.Goals as goal

pub returns-clause-number : goal.returns-clause-number
returns-clause-number g c = sum_adds _ _ c.args.x.now c.args.y.now c.args.carry _ _ c.in_ok-bits.ensures.adds c.in_ok-bits.ensures.sum
