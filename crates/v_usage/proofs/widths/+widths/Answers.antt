use Rattle.std.proofs.Common.{sym, ap, ◌∙◌, ℕ, Some}
use Rattle.v_usage.specs.Bits.{up_to_129}
use Rattle.v_usage.proofs.Counting.{counts_next, counts_end}
use Rattle.v_usage.proofs.Variants.{when_number, when_name, when_select, when_part, when_cast, when_concat, when_replicate}
use Rattle.v_usage.proofs.Arms.{same_answer, unary_is, conditional_is, chain_is, replicated_counted, joined_is}
use Rattle.v_usage.proofs.widths.+widths.Goals as goal

pub width-returns-in-Number : goal.width-returns-in-Number
width-returns-in-Number t c =
    ap (λ (n : ℕ). Some n) c.width_up_to_129.ensures ∙ ap up_to_129 (sym (when_number c.args.names.now c.args.x.now _ c.in-Number.is))

pub width-returns-in-Name : goal.width-returns-in-Name
width-returns-in-Name t c = c.name_width.ensures ∙ ap up_to_129 (sym (when_name c.args.names.now c.args.x.now _ c.in-Name.is))

pub width-returns-in-Select : goal.width-returns-in-Select
width-returns-in-Select t c = c.selected_width.ensures ∙ ap up_to_129 (sym (when_select c.args.names.now c.args.x.now _ _ _ c.in-Select.is))

pub width-returns-in-Part : goal.width-returns-in-Part
width-returns-in-Part t c =
    same_answer c.part_width.result _ _ (ap up_to_129 (sym (when_part c.args.names.now c.args.x.now _ _ _ _ _ _ _ _ c.in-Part.is c.get.ensures c.get-in-Part.ensures))) c.part_width.ensures

pub width-returns-in_ok-x-in-Unary : goal.width-returns-in_ok-x-in-Unary
width-returns-in_ok-x-in-Unary t c =
    unary_is c.args.names.now c.args.x.now _ _ _ _ _ c.in-Unary.is c.get-in-Unary.ensures c.in_ok-x-in-Unary.ensures c.prefixed.ensures

pub width-returns-in_ok-first-in-Chain : goal.width-returns-in_ok-first-in-Chain
width-returns-in_ok-first-in-Chain t c =
    same_answer c.chain_width.result _ _ (chain_is c.args.names.now c.args.x.now _ _ _ _ _ c.in-Chain.is c.get-in-Chain.ensures c.as_slice.ensures c.in_ok-first-in-Chain.ensures) c.chain_width.ensures

pub width-returns-in_ok-y-in-Conditional : goal.width-returns-in_ok-y-in-Conditional
width-returns-in_ok-y-in-Conditional t c =
    conditional_is c.args.names.now c.args.x.now _ _ _ _ _ _ _ _ c.in-Conditional.is c.get-in-Conditional.ensures c.get-in-Conditional-2.ensures c.in_ok-x-in-Conditional.ensures c.in_ok-y-in-Conditional.ensures c.wider.ensures

pub width-returns-in-Concat : goal.width-returns-in-Concat
width-returns-in-Concat t c =
    same_answer c.joined_width.result _ _ (ap up_to_129 (sym (when_concat c.args.names.now c.args.x.now _ _ _ c.in-Concat.is c.as_slice-in-Concat.ensures))) c.joined_width.ensures

pub width-returns-in_ok-x-in-Replicate : goal.width-returns-in_ok-x-in-Replicate
width-returns-in_ok-x-in-Replicate t c =
    replicated_counted c.args.names.now _ _ _ _ _ c.in_ok-count-in-Replicate.ensures c.in_ok-x-in-Replicate.ensures c.times.ensures
    ∙ ap up_to_129 (sym (when_replicate c.args.names.now c.args.x.now _ _ _ _ _ _ _ c.in-Replicate.is c.get-in-Replicate.ensures c.as_slice-in-Replicate.ensures))

pub width-returns-in-Cast : goal.width-returns-in-Cast
width-returns-in-Cast t c =
    same_answer c.width-in-Cast.result _ _ (ap up_to_129 (sym (when_cast c.args.names.now c.args.x.now _ _ _ c.in-Cast.is c.get-in-Cast.ensures))) c.width-in-Cast.ensures

pub chain_width-loop-operator-preserved : goal.chain_width-loop-operator-preserved
chain_width-loop-operator-preserved t c =
    counts_next _ _ _ _ _ _ _ _ _ c.loop-operator-test.true c.loop-operator-item.is c.in_ok-y.ensures c.between-all.ensures c.loop-operator.invariant

pub chain_width-returns : goal.chain_width-returns
chain_width-returns t c = counts_end _ _ _ _ _ _ c.loop-operator-test.false c.loop-operator.invariant

pub joined_width-loop-x-preserved : goal.joined_width-loop-x-preserved
joined_width-loop-x-preserved t c = counts_next _ _ _ _ _ _ _ _ _ c.loop-x-test.true c.x-item.is c.in_ok-one.ensures c.beside-all.ensures c.loop-x.invariant

pub joined_width-returns : goal.joined_width-returns
joined_width-returns t c = joined_is c.args.names.now c.args.parts.now _ _ c.loop-x-test.false c.loop-x.invariant
