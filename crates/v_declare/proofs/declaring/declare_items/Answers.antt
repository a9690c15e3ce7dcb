use Rattle.v_declare.proofs.Walking.{fails, along_begins, along_next, along_stops, along_ends, along_behind}
use Rattle.v_declare.proofs.declaring.declare_items.Goals as goal

pub loop-item-init : goal.loop-item-init
loop-item-init c = along_begins _ _ _ _

pub loop-item-preserved : goal.loop-item-preserved
loop-item-preserved c = along_next _ _ _ _ _ _ _ _ c.loop-item-test.true c.item-item.is c.in_ok-declare_item.ensures.judged c.in_ok-declare_item.ensures.behind c.loop-item.invariant

pub returns-in_err-declare_item-clause-judged : goal.returns-in_err-declare_item-clause-judged
returns-in_err-declare_item-clause-judged c =
    fails c.from_residual.result _ _ c.from_residual.ensures.1 (along_stops _ _ _ _ _ _ _ _ c.loop-item-test.true c.item-item.is c.in_err-declare_item.ensures.judged c.loop-item.invariant)

pub returns-clause-judged : goal.returns-clause-judged
returns-clause-judged c = along_ends _ _ _ _ _ _ c.loop-item-test.false c.loop-item.invariant

pub returns-clause-behind : goal.returns-clause-behind
returns-clause-behind c = along_behind _ _ _ _ _ _ c.loop-item-test.false c.loop-item.invariant
