use Rattle.std.proofs.Common.{refl, ◌∙◌, []}
use Rattle.v_declare.proofs.Walking.{fails, stops_behind, behind_none, same_answer}
use Rattle.v_declare.proofs.groups.declare_wires.Goals as goal

pub returns-in_err-judge_nets-clause-judged : goal.returns-in_err-judge_nets-clause-judged
returns-in_err-judge_nets-clause-judged c =
    fails c.from_residual-in_err-judge_nets.result _ _ c.from_residual-in_err-judge_nets.ensures.1 (stops_behind _ _ _ _ refl c.in_ok-shape.ensures.judged c.in_err-judge_nets.ensures)

pub returns-clause-judged : goal.returns-clause-judged
returns-clause-judged c =
    same_answer c.push_wires.result [] _ (behind_none _ _ _ refl c.in_ok-shape.ensures.judged ∙ c.in_ok-judge_nets.ensures) c.push_wires.ensures.judged
