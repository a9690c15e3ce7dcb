use Rattle.std.proofs.Common.{None}
use Rattle.g_rules.proofs.Applied.{plain_next, outcome_none, leaves_literal, leaves_next}
use Rattle.g_rules.proofs.applying.apply_plain.Goals as goal

pub loop-rule-init : goal.loop-rule-init
loop-rule-init g c = record { right = outcome_none (λ node. None) c.args.first; order = λ last leaves. leaves }

pub loop-rule-preserved : goal.loop-rule-preserved
loop-rule-preserved g c = record {
  right = rw c.in-Gate.ensures (plain_next _ _ _ _ _ c.loop-rule.invariant.right c.rewrite.ensures.keeps);
  order = λ last leaves. c.loop-rule.invariant.order last (leaves_next _ _ _ _ _ _ _ _ _ c.loop-rule-test.true c.rule-item.is c.rewrite.ensures.answer c.in-Gate.ensures leaves);
}

pub returns-in-Literal-clause-right : goal.returns-in-Literal-clause-right
returns-in-Literal-clause-right g c = rw c.in-Literal.ensures (plain_next _ _ _ _ _ c.loop-rule.invariant.right c.rewrite.ensures.keeps)

pub returns-in-Literal-clause-order : goal.returns-in-Literal-clause-order
returns-in-Literal-clause-order g c = c.loop-rule.invariant.order _
    (leaves_next _ _ _ _ _ _ _ _ _ c.loop-rule-test.true c.rule-item.is c.rewrite.ensures.answer c.in-Literal.ensures (leaves_literal _ _ _))
