use Rattle.std.proofs.Common.{ap}
use Rattle.v_declare.specs.Walks.{first_of}
use Rattle.v_declare.proofs.Walking.{same_answer, fails, stops_first, answers_behind, left_next, left_stops, left_ends}
use Rattle.v_declare.proofs.StmtFaults.{when_whole, when_selected, when_bounded, when_joined}
use Rattle.v_declare.proofs.faults.+targets.Goals as goal

pub judge_target-returns-in-Name : goal.judge_target-returns-in-Name
judge_target-returns-in-Name t c = ap first_of (when_whole _ _ _ c.in-Name.is)

pub judge_target-returns-in-Select : goal.judge_target-returns-in-Select
judge_target-returns-in-Select t c = same_answer c.judge_expr.result _ _ (ap first_of (when_selected _ _ _ _ _ c.in-Select.is)) c.judge_expr.ensures

pub judge_target-returns-in_err-judge_value-in-Part : goal.judge_target-returns-in_err-judge_value-in-Part
judge_target-returns-in_err-judge_value-in-Part t c =
    fails c.from_residual.result _ _ c.from_residual.ensures.1 (stops_first _ _ _ _ (when_bounded _ _ _ _ c.in-Part.is) c.in_err-judge_value-in-Part.ensures)

pub judge_target-returns-in_ok-judge_value-in-Part : goal.judge_target-returns-in_ok-judge_value-in-Part
judge_target-returns-in_ok-judge_value-in-Part t c =
    answers_behind c.judge_value-in-Part.result _ _ _ (when_bounded _ _ _ _ c.in-Part.is) c.in_ok-judge_value-in-Part.ensures c.judge_value-in-Part.ensures

pub judge_target-returns-in-Concat : goal.judge_target-returns-in-Concat
judge_target-returns-in-Concat t c = same_answer c.judge_targets.result _ _ (ap first_of (when_joined _ _ _ _ _ c.in-Concat.is c.as_slice.ensures)) c.judge_targets.ensures

pub judge_targets-loop-target-preserved : goal.judge_targets-loop-target-preserved
judge_targets-loop-target-preserved t c = left_next _ _ _ _ c.loop-target-test.true c.target-item.is c.in_ok-judge_target.ensures c.loop-target.invariant

pub judge_targets-returns-in_err-judge_target : goal.judge_targets-returns-in_err-judge_target
judge_targets-returns-in_err-judge_target t c =
    fails c.from_residual.result _ _ c.from_residual.ensures.1 (left_stops _ _ _ _ _ c.loop-target-test.true c.target-item.is c.in_err-judge_target.ensures c.loop-target.invariant)

pub judge_targets-returns : goal.judge_targets-returns
judge_targets-returns t c = left_ends _ _ _ c.loop-target-test.false c.loop-target.invariant
