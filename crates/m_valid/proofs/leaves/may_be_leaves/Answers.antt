use Rattle.std.proofs.Common.{sym, ◌∙◌}
use Rattle.m_valid.proofs.Judging.{may_be_on, may_be_breaks}
use Rattle.m_valid.proofs.leaves.may_be_leaves.Goals as goal

pub loop-leaf-preserved : goal.loop-leaf-preserved
loop-leaf-preserved c = λ before told.
    may_be_on c.args.nodes.now before c.args.leaves.now c.loop-leaf.leaf-index _ c.loop-leaf-test.true (sym (c.may_be_leaf.ensures before told) ∙ c.if-not-may_be_leaf.false) (c.loop-leaf.invariant before told)

pub returns-then-not-may_be_leaf : goal.returns-then-not-may_be_leaf
returns-then-not-may_be_leaf c = λ before told.
    may_be_breaks c.args.nodes.now before c.args.leaves.now c.loop-leaf.leaf-index _ c.loop-leaf-test.true (sym (c.may_be_leaf.ensures before told) ∙ c.if-not-may_be_leaf.true) (c.loop-leaf.invariant before told)
