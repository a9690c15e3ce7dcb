use Rattle.v_declare.proofs.Walking.{fails, along_begins, along_next, along_stops, along_ends, along_behind}
use Rattle.v_declare.proofs.declaring.declare_all_ports.Goals as goal

pub loop-group-init : goal.loop-group-init
loop-group-init c = along_begins _ _ _ _

pub loop-group-preserved : goal.loop-group-preserved
loop-group-preserved c = along_next _ _ _ _ _ _ _ _ c.loop-group-test.true c.group-item.is c.in_ok-declare_ports.ensures.judged c.in_ok-declare_ports.ensures.behind c.loop-group.invariant

pub returns-in_err-declare_ports-clause-judged : goal.returns-in_err-declare_ports-clause-judged
returns-in_err-declare_ports-clause-judged c =
    fails c.from_residual.result _ _ c.from_residual.ensures.1 (along_stops _ _ _ _ _ _ _ _ c.loop-group-test.true c.group-item.is c.in_err-declare_ports.ensures.judged c.loop-group.invariant)

pub returns-clause-judged : goal.returns-clause-judged
returns-clause-judged c = along_ends _ _ _ _ _ _ c.loop-group-test.false c.loop-group.invariant

pub returns-clause-behind : goal.returns-clause-behind
returns-clause-behind c = along_behind _ _ _ _ _ _ c.loop-group-test.false c.loop-group.invariant
