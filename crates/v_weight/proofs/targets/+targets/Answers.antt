use Rattle.v_weight.proofs.Saturating.{same_refl}
use Rattle.v_weight.proofs.TargetLaws.{when_name, when_select, when_part, when_concat, targets_next, targets_end}
use Rattle.v_weight.proofs.targets.+targets.Goals as goal

pub weigh_target-returns-in-Name : goal.weigh_target-returns-in-Name
weigh_target-returns-in-Name t c sound = when_name c.args.names.now c.args.target.now _ _ c.in-Name.is c.width.ensures c.size.ensures (same_refl 0)

pub weigh_target-returns-in_ok-index-in-Select : goal.weigh_target-returns-in_ok-index-in-Select
weigh_target-returns-in_ok-index-in-Select t c =
    when_select c.args.names.now c.args.target.now _ _ _ _ _ c.in-Select.is c.in_ok-index-in-Select.ensures c.selected_width.ensures c.size-in-Select.ensures c.own.ensures

pub weigh_target-returns-in_ok-width-in-Part : goal.weigh_target-returns-in_ok-width-in-Part
weigh_target-returns-in_ok-width-in-Part t c =
    when_part c.args.names.now c.args.target.now _ _ _ c.in-Part.is c.in_ok-width-in-Part.ensures c.size-in-Part.ensures (same_refl 0)

pub weigh_target-returns-in_ok-all-in-Concat : goal.weigh_target-returns-in_ok-all-in-Concat
weigh_target-returns-in_ok-all-in-Concat t c = when_concat c.args.names.now c.args.target.now _ _ _ _ c.in-Concat.is c.as_slice.ensures c.in_ok-all-in-Concat.ensures

pub weigh_targets-loop-target-preserved : goal.weigh_targets-loop-target-preserved
weigh_targets-loop-target-preserved t c =
    targets_next c.args.names.now c.args.targets.now _ _ _ _ _ _ _ _ _ c.loop-target-test.true c.target-item.is c.in_ok-one.ensures c.plus-width.ensures c.plus-size.ensures c.plus-indices.ensures
    c.loop-target.invariant

pub weigh_targets-returns : goal.weigh_targets-returns
weigh_targets-returns t c = targets_end c.args.names.now c.args.targets.now _ _ c.loop-target-test.false c.loop-target.invariant
