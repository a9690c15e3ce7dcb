use Rattle.v_scope.proofs.Adding.{same_end, then_end, each_next, each_ends}
use Rattle.v_scope.proofs.StmtMarks.{when_whole, when_selected, when_bounded, when_joined}
use Rattle.v_scope.proofs.stmts.+targets.Goals as goal

pub add_target-returns-in-Name : goal.add_target-returns-in-Name
add_target-returns-in-Name t c = same_end c.add.result _ _ _ _ (when_whole _ _ c.in-Name.is) c.add.ensures

pub add_target-returns-in_ok-add-in-Select : goal.add_target-returns-in_ok-add-in-Select
add_target-returns-in_ok-add-in-Select t c = then_end c.add_expr.result _ _ _ _ _ _ (when_selected _ _ _ _ c.in-Select.is) c.in_ok-add-in-Select.ensures c.add_expr.ensures

pub add_target-returns-in_ok-add-in-Part : goal.add_target-returns-in_ok-add-in-Part
add_target-returns-in_ok-add-in-Part t c = then_end c.add_range.result _ _ _ _ _ _ (when_bounded _ _ _ c.in-Part.is) c.in_ok-add-in-Part.ensures c.add_range.ensures

pub add_target-returns-in_ok-add-in-Concat : goal.add_target-returns-in_ok-add-in-Concat
add_target-returns-in_ok-add-in-Concat t c =
    then_end c.add_targets.result _ _ _ _ _ _ (when_joined _ _ _ _ c.in-Concat.is c.as_slice-parts.ensures) c.in_ok-add-in-Concat.ensures c.add_targets.ensures

pub add_targets-loop-target-preserved : goal.add_targets-loop-target-preserved
add_targets-loop-target-preserved t c = each_next _ _ _ _ _ _ _ c.loop-target-test.true c.target-item.is c.in_ok-add_target.ensures c.loop-target.invariant

pub add_targets-returns : goal.add_targets-returns
add_targets-returns t c = each_ends _ _ _ _ _ c.loop-target-test.false c.loop-target.invariant
