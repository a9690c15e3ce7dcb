use Rattle.m_valid.proofs.Judging.{increase_breaks, increase_beyond}
use Rattle.m_valid.proofs.leaves.increase.Goals as goal

pub returns-then-leaf-least : goal.returns-then-leaf-least
returns-then-leaf-least c = increase_breaks c.loop-leaf.least c.args.leaves.now c.args.root c.loop-leaf.leaf-index _ c.loop-leaf-test.true c.if-leaf-least.true c.loop-leaf.invariant

pub returns-then-root-leaf : goal.returns-then-root-leaf
returns-then-root-leaf c = increase_beyond c.loop-leaf.least c.args.leaves.now c.args.root c.loop-leaf.leaf-index _ c.loop-leaf-test.true c.if-root-leaf.true c.loop-leaf.invariant
