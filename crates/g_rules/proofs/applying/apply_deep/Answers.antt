use Rattle.std.proofs.Common.{sym}
use Rattle.g_rules.proofs.Applied.{deep_next, leaves_literal, leaves_next}
use Rattle.g_rules.proofs.applying.apply_deep.Goals as goal

pub loop-rule-preserved : goal.loop-rule-preserved
loop-rule-preserved g c = record {
  right = λ first from. rw c.in-Gate.ensures (deep_next _ _ _ _ _ _ (c.loop-rule.invariant.right first from) c.look.ensures c.rewrite.ensures.keeps);
  order = λ last leaves. c.loop-rule.invariant.order last (leaves_next _ _ _ _ _ _ _ _ _ c.loop-rule-test.true c.rule-item.is (rw (sym c.look.ensures) c.rewrite.ensures.answer) c.in-Gate.ensures leaves);
}

pub returns-in-Literal-clause-right : goal.returns-in-Literal-clause-right
returns-in-Literal-clause-right g c = λ first from. rw c.in-Literal.ensures (deep_next _ _ _ _ _ _ (c.loop-rule.invariant.right first from) c.look.ensures c.rewrite.ensures.keeps)

pub returns-in-Literal-clause-order : goal.returns-in-Literal-clause-order
returns-in-Literal-clause-order g c = c.loop-rule.invariant.order _
    (leaves_next _ _ _ _ _ _ _ _ _ c.loop-rule-test.true c.rule-item.is (rw (sym c.look.ensures) c.rewrite.ensures.answer) c.in-Literal.ensures (leaves_literal _ _ _))
