use Rattle.v_weight.proofs.Saturating.{same_refl}
use Rattle.v_weight.proofs.Variants.{when_number, when_name, when_select, when_part, when_unary, when_chain, when_conditional, when_concat, when_replicate, when_cast}
use Rattle.v_weight.proofs.Turns.{chain_next, chain_ends, parts_next, parts_end}
use Rattle.v_weight.proofs.expressions.+expressions.Goals as goal

pub weigh-returns-in-Number : goal.weigh-returns-in-Number
weigh-returns-in-Number t c = when_number c.args.names.now c.args.x.now _ _ c.in-Number.is c.number.ensures.stands c.number.ensures.constant

pub weigh-returns-in-Name : goal.weigh-returns-in-Name
weigh-returns-in-Name t c sound = when_name c.args.names.now c.args.x.now _ _ c.in-Name.is c.name.ensures.stands c.name.ensures.constant

pub weigh-returns-in_ok-weighed-in-Select : goal.weigh-returns-in_ok-weighed-in-Select
weigh-returns-in_ok-weighed-in-Select t c =
    when_select c.args.names.now c.args.x.now _ _ _ _ _ _ _ c.in-Select.is c.get-index.ensures c.in_ok-value-in-Select.ensures c.in_ok-weighed-in-Select.ensures c.selected.ensures.stands
    c.selected.ensures.constant

pub weigh-returns-in_ok-width-in-Part : goal.weigh-returns-in_ok-width-in-Part
weigh-returns-in_ok-width-in-Part t c =
    when_part c.args.names.now c.args.x.now _ _ _ _ _ _ _ _ _ c.in-Part.is c.get.ensures c.get-in-Part.ensures
    (c.itself.ensures.stands _ _ c.in_ok-width-in-Part.ensures (same_refl 0)) c.itself.ensures.constant

pub weigh-returns-in_ok-x-in-Unary : goal.weigh-returns-in_ok-x-in-Unary
weigh-returns-in_ok-x-in-Unary t c =
    when_unary c.args.names.now c.args.x.now _ _ _ _ _ c.in-Unary.is c.get-in-Unary.ensures c.in_ok-x-in-Unary.ensures c.prefixed.ensures.stands c.prefixed.ensures.constant

pub weigh-returns-in_ok-all-in-Chain : goal.weigh-returns-in_ok-all-in-Chain
weigh-returns-in_ok-all-in-Chain t c =
    when_chain c.args.names.now c.args.x.now _ _ _ _ _ _ c.in-Chain.is c.get-in-Chain.ensures c.as_slice.ensures c.in_ok-first-in-Chain.ensures c.in_ok-all-in-Chain.ensures

pub weigh-returns-in_ok-y-in-Conditional : goal.weigh-returns-in_ok-y-in-Conditional
weigh-returns-in_ok-y-in-Conditional t c =
    when_conditional c.args.names.now c.args.x.now _ _ _ _ _ _ _ _ _ _ c.in-Conditional.is c.get-in-Conditional.ensures c.get-in-Conditional-2.ensures c.get-in-Conditional-3.ensures
    c.in_ok-c-in-Conditional.ensures c.in_ok-x-in-Conditional.ensures c.in_ok-y-in-Conditional.ensures c.chosen.ensures.stands c.chosen.ensures.constant

pub weigh-returns-in_ok-all-in-Concat : goal.weigh-returns-in_ok-all-in-Concat
weigh-returns-in_ok-all-in-Concat t c = when_concat c.args.names.now c.args.x.now _ _ _ _ c.in-Concat.is c.as_slice-in-Concat.ensures c.in_ok-all-in-Concat.ensures

pub weigh-returns-in_ok-all-in-Replicate : goal.weigh-returns-in_ok-all-in-Replicate
weigh-returns-in_ok-all-in-Replicate t c =
    when_replicate c.args.names.now c.args.x.now _ _ _ _ _ _ _ _ _ _ c.in-Replicate.is c.get-in-Replicate.ensures c.as_slice-in-Replicate.ensures c.in_ok-count-in-Replicate.ensures
    c.in_ok-all-in-Replicate.ensures (λ s p. c.replicated.ensures.stands _ s c.stopped.ensures p) c.replicated.ensures.constant

pub weigh-returns-in_ok-x-in-Cast : goal.weigh-returns-in_ok-x-in-Cast
weigh-returns-in_ok-x-in-Cast t c =
    when_cast c.args.names.now c.args.x.now _ _ _ _ _ c.in-Cast.is c.get-in-Cast.ensures c.in_ok-x-in-Cast.ensures c.recast.ensures.stands c.recast.ensures.constant

pub weigh_chain-loop-operator-preserved : goal.weigh_chain-loop-operator-preserved
weigh_chain-loop-operator-preserved t c =
    chain_next c.args.names.now c.args.links.now _ _ _ _ _ _ c.loop-operator-test.true c.loop-operator-item.is c.in_ok-y.ensures c.operated-all.ensures.stands c.operated-all.ensures.constant
    c.loop-operator.invariant

pub weigh_chain-returns : goal.weigh_chain-returns
weigh_chain-returns t c = chain_ends c.args.names.now c.args.links.now _ _ _ c.loop-operator-test.false c.loop-operator.invariant

pub weigh_parts-loop-x-preserved : goal.weigh_parts-loop-x-preserved
weigh_parts-loop-x-preserved t c =
    parts_next c.args.names.now c.args.parts.now _ _ _ _ _ _ _ _ _ _ c.loop-x-test.true c.x-item.is c.in_ok-one.ensures c.plus-width.ensures c.own.ensures c.plus-weight.ensures
    c.both-is_constant.ensures c.loop-x.invariant

pub weigh_parts-returns : goal.weigh_parts-returns
weigh_parts-returns t c = parts_end c.args.names.now c.args.parts.now _ _ _ _ _ c.loop-x-test.false c.loop-x.invariant c.itself.ensures.stands c.itself.ensures.constant
