use Rattle.std.proofs.Common.{◌∙◌}
use Rattle.v_core.proofs.BodyLaws.{chain_fixed, unary_fixed, choice_fixed, one_fixed, all_fixed, front_no_deeper}
use Rattle.v_core.proofs.OpenFormLaws.{chain_formed, unary_formed, choice_formed, one_formed, all_formed}
use Rattle.v_core.proofs.SitedLaws.{chain_sited, unary_sited, choice_sited, one_sited, all_sited}
use Rattle.v_core.proofs.fixing.+fixing.Goals as goal

pub fix-returns-in_ok-x-in-Unary-clause-value : goal.fix-returns-in_ok-x-in-Unary-clause-value
fix-returns-in_ok-x-in-Unary-clause-value t c =
    rw (unary_fixed _ _ _ _ _ c.args.width c.args.signed c.in-Unary.is c.into_inner.ensures c.in_ok-x-in-Unary.ensures.value) c.prefixed.ensures.value

pub fix-returns-in_ok-x-in-Unary-clause-form : goal.fix-returns-in_ok-x-in-Unary-clause-form
fix-returns-in_ok-x-in-Unary-clause-form t c =
    rw (unary_formed _ _ _ _ _ c.args.width c.args.signed c.in-Unary.is c.into_inner.ensures c.in_ok-x-in-Unary.ensures.form) c.prefixed.ensures.form

pub fix-returns-in_ok-links-in-Chain-clause-value : goal.fix-returns-in_ok-links-in-Chain-clause-value
fix-returns-in_ok-links-in-Chain-clause-value t c =
    rw
    (chain_fixed _ _ _ _ _ _ c.args.width c.args.signed c.in-Chain.is c.into_inner-in-Chain.ensures c.in_ok-x-in-Chain.ensures.value c.in_ok-links-in-Chain.ensures.value)
    c.chained.ensures.value

pub fix-returns-in_ok-links-in-Chain-clause-form : goal.fix-returns-in_ok-links-in-Chain-clause-form
fix-returns-in_ok-links-in-Chain-clause-form t c =
    rw
    (chain_formed _ _ _ _ _ _ c.args.width c.args.signed c.in-Chain.is c.into_inner-in-Chain.ensures c.in_ok-x-in-Chain.ensures.form c.in_ok-links-in-Chain.ensures.form)
    c.chained.ensures.form

pub fix-returns-in_ok-y-in-Choice-clause-value : goal.fix-returns-in_ok-y-in-Choice-clause-value
fix-returns-in_ok-y-in-Choice-clause-value t c =
    rw
    (choice_fixed _ _ _ _ _ _ _ _ c.args.width c.args.signed c.in-Choice.is c.into_inner-in-Choice.ensures c.into_inner-in-Choice-2.ensures
    c.in_ok-x-in-Choice.ensures.value c.in_ok-y-in-Choice.ensures.value)
    c.chosen.ensures.value

pub fix-returns-in_ok-y-in-Choice-clause-form : goal.fix-returns-in_ok-y-in-Choice-clause-form
fix-returns-in_ok-y-in-Choice-clause-form t c =
    rw
    (choice_formed _ _ _ _ _ _ _ _ c.args.width c.args.signed c.in-Choice.is c.into_inner-in-Choice.ensures c.into_inner-in-Choice-2.ensures
    c.in_ok-x-in-Choice.ensures.form c.in_ok-y-in-Choice.ensures.form)
    c.chosen.ensures.form

pub fix_links-loop-operator-preserved : goal.fix_links-loop-operator-preserved
fix_links-loop-operator-preserved t c = (
  front_no_deeper _ _ _ _ _ c.in-Some.ensures c.loop-operator.invariant.0,
  one_fixed _ _ (c.in-Some.operator, c.in-Some.body) _ c.loop-operator.fixed.items _ c.args.width c.args.signed _ c.in-Some.ensures c.in_ok-push.ensures.items c.in_ok-x.ensures.value
      c.loop-operator.invariant.1,
  one_formed _ _ (c.in-Some.operator, c.in-Some.body) _ c.loop-operator.fixed.items _ c.args.width c.args.signed _ c.in-Some.ensures c.in_ok-push.ensures.items c.in_ok-x.ensures.form
      c.loop-operator.invariant.2,
  one_sited _ _ (c.in-Some.operator, c.in-Some.body) _ _ c.loop-operator.fixed.items _ _ c.in-Some.ensures c.in_ok-push.ensures.items c.in_ok-x.ensures.sited c.loop-operator.invariant.3,
)

pub fix_links-returns-clause-value : goal.fix_links-returns-clause-value
fix_links-returns-clause-value t c =
    all_fixed c.loop-operator.left c.loop-operator.fixed.items _ c.args.width c.args.signed _ c.in_default.ensures.0 (c.from_vec.ensures ∙ c.reverse.ensures.items)
    c.loop-operator.invariant.1

pub fix_links-returns-clause-form : goal.fix_links-returns-clause-form
fix_links-returns-clause-form t c =
    all_formed c.loop-operator.left c.loop-operator.fixed.items _ c.args.width c.args.signed _ c.in_default.ensures.0 (c.from_vec.ensures ∙ c.reverse.ensures.items)
    c.loop-operator.invariant.2

pub fix-returns-in_ok-x-in-Unary-clause-sited : goal.fix-returns-in_ok-x-in-Unary-clause-sited
fix-returns-in_ok-x-in-Unary-clause-sited t c =
    rw (unary_sited _ _ _ _ _ c.in-Unary.is c.into_inner.ensures c.in_ok-x-in-Unary.ensures.sited) c.prefixed.ensures.sited

pub fix-returns-in_ok-links-in-Chain-clause-sited : goal.fix-returns-in_ok-links-in-Chain-clause-sited
fix-returns-in_ok-links-in-Chain-clause-sited t c =
    rw (chain_sited _ _ _ _ _ _ c.in-Chain.is c.into_inner-in-Chain.ensures c.in_ok-x-in-Chain.ensures.sited c.in_ok-links-in-Chain.ensures.sited) c.chained.ensures.sited

pub fix-returns-in_ok-y-in-Choice-clause-sited : goal.fix-returns-in_ok-y-in-Choice-clause-sited
fix-returns-in_ok-y-in-Choice-clause-sited t c =
    rw
    (choice_sited _ _ _ _ _ _ _ _ c.in-Choice.is c.into_inner-in-Choice.ensures c.into_inner-in-Choice-2.ensures c.in_ok-x-in-Choice.ensures.sited c.in_ok-y-in-Choice.ensures.sited)
    c.chosen.ensures.sited

pub fix_links-returns-clause-sited : goal.fix_links-returns-clause-sited
fix_links-returns-clause-sited t c =
    all_sited c.loop-operator.left c.loop-operator.fixed.items _ _ c.in_default.ensures.0 (c.from_vec.ensures ∙ c.reverse.ensures.items) c.loop-operator.invariant.3
