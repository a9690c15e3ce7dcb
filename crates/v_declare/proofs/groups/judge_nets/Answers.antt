use Rattle.v_declare.proofs.Walking.{fails, left_next, left_stops, left_ends}
use Rattle.v_declare.proofs.groups.judge_nets.Goals as goal

pub loop-net-preserved : goal.loop-net-preserved
loop-net-preserved c = left_next _ _ _ _ c.loop-net-test.true c.net-item.is c.in_ok-judge_net.ensures c.loop-net.invariant

pub returns-in_err-judge_net : goal.returns-in_err-judge_net
returns-in_err-judge_net c =
    fails c.from_residual.result _ _ c.from_residual.ensures.1 (left_stops _ _ _ _ _ c.loop-net-test.true c.net-item.is c.in_err-judge_net.ensures c.loop-net.invariant)

pub returns : goal.returns
returns c = left_ends _ _ _ c.loop-net-test.false c.loop-net.invariant
