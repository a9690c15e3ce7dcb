use denote.Param.Weighed.{most}
use Rattle.std.proofs.Common.{refl, ap, ◌∙◌, arith}
use Rattle.v_syntax.proofs.expr.Expr.TheLaws.{the_size}
use Rattle.v_declare.specs.Walks.{first_of}
use Rattle.v_declare.proofs.Walking.{same_answer, fails, stops_first, stops_behind, behind_none, answers_behind, left_next, left_stops, left_ends}
use Rattle.v_declare.proofs.Depths.{copied_deeper}
use Rattle.v_declare.proofs.ExprFaults.{when_number, when_name, when_select, when_part, when_unary, when_cast, when_chain, when_conditional, when_concat, when_replicate}
use Rattle.v_declare.proofs.faults.+expressions.Goals as goal

pub judge_expr-returns-in-Number : goal.judge_expr-returns-in-Number
judge_expr-returns-in-Number t c = ap first_of (when_number _ _ _ c.in-Number.is)

pub judge_expr-returns-in-Name : goal.judge_expr-returns-in-Name
judge_expr-returns-in-Name t c = ap first_of (when_name _ _ _ c.in-Name.is)

pub judge_expr-returns-in-Select : goal.judge_expr-returns-in-Select
judge_expr-returns-in-Select t c = same_answer c.judge_expr.result _ _ (ap first_of (when_select _ _ _ _ _ _ c.in-Select.is c.get.ensures)) c.judge_expr.ensures

pub judge_expr-returns-in_err-judge_value-in-Part : goal.judge_expr-returns-in_err-judge_value-in-Part
judge_expr-returns-in_err-judge_value-in-Part t c =
    fails c.from_residual.result _ _ c.from_residual.ensures.1
    (stops_first _ _ _ _ (when_part _ _ _ _ _ _ _ _ _ _ c.in-Part.is c.get-in-Part.ensures refl) c.in_err-judge_value-in-Part.ensures)

pub judge_expr-returns-in_ok-judge_value-in-Part : goal.judge_expr-returns-in_ok-judge_value-in-Part
judge_expr-returns-in_ok-judge_value-in-Part t c =
    answers_behind c.judge_value-in-Part.result _ _ _ (when_part _ _ _ _ _ _ _ _ _ _ c.in-Part.is c.get-in-Part.ensures c.get-in-Part-2.ensures) c.in_ok-judge_value-in-Part.ensures c.judge_value-in-Part.ensures

pub judge_expr-returns-in-Unary : goal.judge_expr-returns-in-Unary
judge_expr-returns-in-Unary t c = same_answer c.judge_expr-in-Unary.result _ _ (ap first_of (when_unary _ _ _ _ _ c.in-Unary.is c.get-in-Unary.ensures)) c.judge_expr-in-Unary.ensures

pub judge_expr-returns-in_err-judge_expr-in-Chain : goal.judge_expr-returns-in_err-judge_expr-in-Chain
judge_expr-returns-in_err-judge_expr-in-Chain t c =
    fails c.from_residual-in_err-judge_expr-in-Chain.result _ _ c.from_residual-in_err-judge_expr-in-Chain.ensures.1
    (stops_first _ _ _ _ (when_chain _ _ _ _ _ _ c.in-Chain.is c.get-in-Chain.ensures refl) c.in_err-judge_expr-in-Chain.ensures)

pub judge_expr-returns-in_ok-judge_expr-in-Chain : goal.judge_expr-returns-in_ok-judge_expr-in-Chain
judge_expr-returns-in_ok-judge_expr-in-Chain t c =
    answers_behind c.judge_links.result _ _ _ (when_chain _ _ _ _ _ _ c.in-Chain.is c.get-in-Chain.ensures c.as_slice.ensures) c.in_ok-judge_expr-in-Chain.ensures c.judge_links.ensures

pub judge_expr-returns-in_err-judge_expr-in-Conditional : goal.judge_expr-returns-in_err-judge_expr-in-Conditional
judge_expr-returns-in_err-judge_expr-in-Conditional t c =
    fails c.from_residual-in_err-judge_expr-in-Conditional.result _ _ c.from_residual-in_err-judge_expr-in-Conditional.ensures.1
    (stops_first _ _ _ _ (when_conditional _ _ _ _ _ _ _ _ c.in-Conditional.is c.get-in-Conditional.ensures refl refl)
    (stops_first _ _ _ _ refl c.in_err-judge_expr-in-Conditional.ensures))

pub judge_expr-returns-in_err-judge_expr-in-Conditional-2 : goal.judge_expr-returns-in_err-judge_expr-in-Conditional-2
judge_expr-returns-in_err-judge_expr-in-Conditional-2 t c =
    fails c.from_residual-in_err-judge_expr-in-Conditional-2.result _ _ c.from_residual-in_err-judge_expr-in-Conditional-2.ensures.1
    (stops_first _ _ _ _ (when_conditional _ _ _ _ _ _ _ _ c.in-Conditional.is c.get-in-Conditional.ensures c.get-in-Conditional-2.ensures refl)
    (stops_behind _ _ _ _ refl c.in_ok-judge_expr-in-Conditional.ensures c.in_err-judge_expr-in-Conditional-2.ensures))

pub judge_expr-returns-in_ok-judge_expr-in-Conditional-2 : goal.judge_expr-returns-in_ok-judge_expr-in-Conditional-2
judge_expr-returns-in_ok-judge_expr-in-Conditional-2 t c =
    answers_behind c.judge_expr-in-Conditional-3.result _ _ _
    (when_conditional _ _ _ _ _ _ _ _ c.in-Conditional.is c.get-in-Conditional.ensures c.get-in-Conditional-2.ensures c.get-in-Conditional-3.ensures)
    (behind_none _ _ _ refl c.in_ok-judge_expr-in-Conditional.ensures ∙ c.in_ok-judge_expr-in-Conditional-2.ensures) c.judge_expr-in-Conditional-3.ensures

pub judge_expr-returns-in-Concat : goal.judge_expr-returns-in-Concat
judge_expr-returns-in-Concat t c = same_answer c.judge_exprs.result _ _ (ap first_of (when_concat _ _ _ _ _ c.in-Concat.is c.as_slice-in-Concat.ensures)) c.judge_exprs.ensures

pub judge_expr-returns-in_err-judge_count-in-Replicate : goal.judge_expr-returns-in_err-judge_count-in-Replicate
judge_expr-returns-in_err-judge_count-in-Replicate t c =
    fails c.from_residual-in_err-judge_count-in-Replicate.result _ _ c.from_residual-in_err-judge_count-in-Replicate.ensures.1
    (stops_first _ _ _ _ (when_replicate _ _ _ _ _ _ _ _ _ c.in-Replicate.is c.get-count.ensures c.as_slice-parts.ensures) c.in_err-judge_count-in-Replicate.ensures)

pub judge_expr-returns-in_ok-judge_count-in-Replicate : goal.judge_expr-returns-in_ok-judge_count-in-Replicate
judge_expr-returns-in_ok-judge_count-in-Replicate t c =
    answers_behind c.judge_exprs-in-Replicate.result _ _ _ (when_replicate _ _ _ _ _ _ _ _ _ c.in-Replicate.is c.get-count.ensures c.as_slice-parts.ensures)
    c.in_ok-judge_count-in-Replicate.ensures c.judge_exprs-in-Replicate.ensures

pub judge_expr-returns-in-Cast : goal.judge_expr-returns-in-Cast
judge_expr-returns-in-Cast t c = same_answer c.judge_expr-in-Cast.result _ _ (ap first_of (when_cast _ _ _ _ _ c.in-Cast.is c.get-in-Cast.ensures)) c.judge_expr-in-Cast.ensures

pub judge_links-loop-operand-preserved : goal.judge_links-loop-operand-preserved
judge_links-loop-operand-preserved t c = left_next _ _ _ _ c.loop-operand-test.true c.loop-operand-item.is c.in_ok-judge_expr.ensures c.loop-operand.invariant

pub judge_links-returns-in_err-judge_expr : goal.judge_links-returns-in_err-judge_expr
judge_links-returns-in_err-judge_expr t c =
    fails c.from_residual.result _ _ c.from_residual.ensures.1 (left_stops _ _ _ _ _ c.loop-operand-test.true c.loop-operand-item.is c.in_err-judge_expr.ensures c.loop-operand.invariant)

pub judge_links-returns : goal.judge_links-returns
judge_links-returns t c = left_ends _ _ _ c.loop-operand-test.false c.loop-operand.invariant

pub judge_exprs-loop-x-preserved : goal.judge_exprs-loop-x-preserved
judge_exprs-loop-x-preserved t c = left_next _ _ _ _ c.loop-x-test.true c.x-item.is c.in_ok-judge_expr.ensures c.loop-x.invariant

pub judge_exprs-returns-in_err-judge_expr : goal.judge_exprs-returns-in_err-judge_expr
judge_exprs-returns-in_err-judge_expr t c =
    fails c.from_residual.result _ _ c.from_residual.ensures.1 (left_stops _ _ _ _ _ c.loop-x-test.true c.x-item.is c.in_err-judge_expr.ensures c.loop-x.invariant)

pub judge_exprs-returns : goal.judge_exprs-returns
judge_exprs-returns t c = left_ends _ _ _ c.loop-x-test.false c.loop-x.invariant

pub judge_expr-judge_exprs-requires-in-Replicate : goal.judge_expr-judge_exprs-requires-in-Replicate
judge_expr-judge_exprs-requires-in-Replicate t c = (
  omega (arith, ap the_size c.in-Replicate.is, copied_deeper c.in-Replicate.brace c.in-Replicate.count_at c.in-Replicate.count c.in-Replicate.inner_brace c.in-Replicate.parts, ap (most the_size) c.as_slice-parts.ensures),
  tt,
)
