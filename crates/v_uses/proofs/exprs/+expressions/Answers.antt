use Rattle.std.proofs.Common.{refl}
use Rattle.v_meaning.specs.Uses.{reads_of}
use Rattle.v_uses.specs.Adding.{link_reads}
use Rattle.v_uses.proofs.Adding.{none_more, same_more, then_more, three_more, on_ok, each_next, each_ends}
use Rattle.v_uses.proofs.ExprReads.{name_bits, index_bits, bound_bits, when_number, when_name, when_select, when_part, when_unary, when_chain, when_conditional, when_concat, when_replicate, when_cast}
use Rattle.v_uses.proofs.exprs.+expressions.Goals as goal

pub add_expr-returns-in-Number : goal.add_expr-returns-in-Number
add_expr-returns-in-Number t c = none_more _ (when_number _ _ c.in-Number.is)

pub add_expr-returns-in-Name : goal.add_expr-returns-in-Name
add_expr-returns-in-Name t c = on_ok c.add_read.result (same_more (name_bits c.in-Name.name) (when_name _ _ c.in-Name.is)) c.add_read.ensures

pub add_expr-returns-in_ok-add_read-in-Select : goal.add_expr-returns-in_ok-add_read-in-Select
add_expr-returns-in_ok-add_read-in-Select t c =
    on_ok c.add_expr.result
    (then_more (when_select _ _ _ _ _ c.in-Select.is c.get.ensures) (same_more (index_bits c.in-Select.name c.in-Select.index) (λ names. refl) c.in_ok-add_read-in-Select.ensures))
    c.add_expr.ensures

pub add_expr-returns-in-Part : goal.add_expr-returns-in-Part
add_expr-returns-in-Part t c = on_ok c.add_read-in-Part.result (same_more (bound_bits c.in-Part.name c.in-Part.msb c.in-Part.lsb) (when_part _ _ _ _ _ _ _ c.in-Part.is)) c.add_read-in-Part.ensures

pub add_expr-returns-in-Unary : goal.add_expr-returns-in-Unary
add_expr-returns-in-Unary t c = on_ok c.add_expr-in-Unary.result (same_more (λ names. names) (when_unary _ _ _ _ c.in-Unary.is c.get-in-Unary.ensures)) c.add_expr-in-Unary.ensures

pub add_expr-returns-in_ok-add_expr-in-Chain : goal.add_expr-returns-in_ok-add_expr-in-Chain
add_expr-returns-in_ok-add_expr-in-Chain t c =
    on_ok c.add_links.result (then_more (when_chain _ _ _ _ _ c.in-Chain.is c.get-in-Chain.ensures c.as_slice.ensures) c.in_ok-add_expr-in-Chain.ensures) c.add_links.ensures

pub add_expr-returns-in_ok-add_expr-in-Conditional-2 : goal.add_expr-returns-in_ok-add_expr-in-Conditional-2
add_expr-returns-in_ok-add_expr-in-Conditional-2 t c =
    on_ok c.add_expr-in-Conditional-3.result
    (three_more (when_conditional _ _ _ _ _ _ _ c.in-Conditional.is c.get-in-Conditional.ensures c.get-in-Conditional-2.ensures c.get-in-Conditional-3.ensures)
    c.in_ok-add_expr-in-Conditional.ensures c.in_ok-add_expr-in-Conditional-2.ensures)
    c.add_expr-in-Conditional-3.ensures

pub add_expr-returns-in-Concat : goal.add_expr-returns-in-Concat
add_expr-returns-in-Concat t c = on_ok c.add_exprs.result (same_more (λ names. names) (when_concat _ _ _ _ c.in-Concat.is c.as_slice-in-Concat.ensures)) c.add_exprs.ensures

pub add_expr-returns-in-Replicate : goal.add_expr-returns-in-Replicate
add_expr-returns-in-Replicate t c =
    on_ok c.add_exprs-in-Replicate.result (same_more (λ names. names) (when_replicate _ _ _ _ _ _ _ c.in-Replicate.is c.as_slice-in-Replicate.ensures)) c.add_exprs-in-Replicate.ensures

pub add_expr-returns-in-Cast : goal.add_expr-returns-in-Cast
add_expr-returns-in-Cast t c = on_ok c.add_expr-in-Cast.result (same_more (λ names. names) (when_cast _ _ _ _ c.in-Cast.is c.get-in-Cast.ensures)) c.add_expr-in-Cast.ensures

pub add_links-loop-operand-preserved : goal.add_links-loop-operand-preserved
add_links-loop-operand-preserved t c = each_next link_reads c.loop-operand-test.true c.loop-operand-item.is c.in_ok-add_expr.ensures c.loop-operand.invariant

pub add_links-returns : goal.add_links-returns
add_links-returns t c = each_ends link_reads c.loop-operand-test.false c.loop-operand.invariant

pub add_exprs-loop-x-preserved : goal.add_exprs-loop-x-preserved
add_exprs-loop-x-preserved t c = each_next reads_of c.loop-x-test.true c.x-item.is c.in_ok-add_expr.ensures c.loop-x.invariant

pub add_exprs-returns : goal.add_exprs-returns
add_exprs-returns t c = each_ends reads_of c.loop-x-test.false c.loop-x.invariant
