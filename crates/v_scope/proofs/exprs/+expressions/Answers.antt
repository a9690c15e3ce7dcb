use Rattle.std.proofs.Common.{refl}
use Rattle.v_scope.proofs.Adding.{same_end, then_end, three_end, then_more, each_next}
use Rattle.v_scope.proofs.ExprMarks.{when_number, when_name, when_select, when_part, when_unary, when_chain, when_conditional, when_concat, when_replicate, when_cast}
use Rattle.v_scope.proofs.exprs.+expressions.Goals as goal

pub add_expr-returns-in-Number : goal.add_expr-returns-in-Number
add_expr-returns-in-Number t c = same_end c.add.result _ _ _ _ (when_number _ _ c.in-Number.is) c.add.ensures

pub add_expr-returns-in-Name : goal.add_expr-returns-in-Name
add_expr-returns-in-Name t c = same_end c.add-in-Name.result _ _ _ _ (when_name _ _ c.in-Name.is) c.add-in-Name.ensures

pub add_expr-returns-in_ok-add-in-Select : goal.add_expr-returns-in_ok-add-in-Select
add_expr-returns-in_ok-add-in-Select t c = then_end c.add_expr.result _ _ _ _ _ _ (when_select _ _ _ _ _ c.in-Select.is c.get.ensures) c.in_ok-add-in-Select.ensures c.add_expr.ensures

pub add_expr-returns-in_ok-add_expr-in-Part : goal.add_expr-returns-in_ok-add_expr-in-Part
add_expr-returns-in_ok-add_expr-in-Part t c =
    three_end c.add_expr-in-Part-2.result _ _ _ _ _ _ _ _ (when_part _ _ _ _ _ _ _ _ _ c.in-Part.is c.get-msb.ensures c.get-lsb.ensures) c.in_ok-add-in-Part.ensures c.in_ok-add_expr-in-Part.ensures c.add_expr-in-Part-2.ensures

pub add_expr-returns-in-Unary : goal.add_expr-returns-in-Unary
add_expr-returns-in-Unary t c = same_end c.add_expr-in-Unary.result _ _ _ _ (when_unary _ _ _ _ c.in-Unary.is c.get-in-Unary.ensures) c.add_expr-in-Unary.ensures

pub add_expr-returns-in_ok-add_expr-in-Chain : goal.add_expr-returns-in_ok-add_expr-in-Chain
add_expr-returns-in_ok-add_expr-in-Chain t c =
    then_end c.add_links.result _ _ _ _ _ _ (when_chain _ _ _ _ _ c.in-Chain.is c.get-in-Chain.ensures c.as_slice.ensures) c.in_ok-add_expr-in-Chain.ensures c.add_links.ensures

pub add_expr-returns-in_ok-add_expr-in-Conditional-2 : goal.add_expr-returns-in_ok-add_expr-in-Conditional-2
add_expr-returns-in_ok-add_expr-in-Conditional-2 t c =
    three_end c.add_expr-in-Conditional-3.result _ _ _ _ _ _ _ _ (when_conditional _ _ _ _ _ _ _ c.in-Conditional.is c.get-in-Conditional.ensures c.get-in-Conditional-2.ensures c.get-in-Conditional-3.ensures)
    c.in_ok-add_expr-in-Conditional.ensures c.in_ok-add_expr-in-Conditional-2.ensures c.add_expr-in-Conditional-3.ensures

pub add_expr-returns-in_ok-add-in-Concat : goal.add_expr-returns-in_ok-add-in-Concat
add_expr-returns-in_ok-add-in-Concat t c =
    then_end c.add_parts.result _ _ _ _ _ _ (when_concat _ _ _ _ c.in-Concat.is c.as_slice-parts.ensures) c.in_ok-add-in-Concat.ensures c.add_parts.ensures

pub add_expr-returns-in_ok-add_expr-in-Replicate : goal.add_expr-returns-in_ok-add_expr-in-Replicate
add_expr-returns-in_ok-add_expr-in-Replicate t c =
    three_end c.add_parts-in-Replicate.result _ _ _ _ _ _ _ _ (when_replicate _ _ _ _ _ _ _ _ c.in-Replicate.is c.get-count.ensures c.as_slice-parts-in-Replicate.ensures)
    c.in_ok-add-in-Replicate.ensures c.in_ok-add_expr-in-Replicate.ensures c.add_parts-in-Replicate.ensures

pub add_expr-returns-in-Cast : goal.add_expr-returns-in-Cast
add_expr-returns-in-Cast t c = same_end c.add_expr-in-Cast.result _ _ _ _ (when_cast _ _ _ _ c.in-Cast.is c.get-in-Cast.ensures) c.add_expr-in-Cast.ensures

pub add_links-loop-operand-preserved : goal.add_links-loop-operand-preserved
add_links-loop-operand-preserved t c = each_next _ _ _ _ _ _ _ c.loop-operand-test.true c.loop-operand-item.is c.in_ok-add_expr.ensures c.loop-operand.invariant

pub add_parts-loop-part-preserved : goal.add_parts-loop-part-preserved
add_parts-loop-part-preserved t c =
    each_next _ _ _ _ _ _ _ c.loop-part-test.true c.part-item.is (then_more _ _ _ _ _ _ (λ names. refl) c.in_ok-add_unsized.ensures c.in_ok-add_expr.ensures) c.loop-part.invariant
