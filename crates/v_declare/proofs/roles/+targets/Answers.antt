use Rattle.v_declare.proofs.Written.{same_end, each_begins, each_next, each_ends, when_whole, when_selected, when_bounded, when_joined}
use Rattle.v_declare.proofs.roles.+targets.Goals as goal

pub meet_target-returns-in-Name : goal.meet_target-returns-in-Name
meet_target-returns-in-Name t c = same_end c.meet_name.result _ _ _ _ (when_whole _ _ c.in-Name.is) c.meet_name.ensures

pub meet_target-returns-in-Select : goal.meet_target-returns-in-Select
meet_target-returns-in-Select t c = same_end c.meet_name-in-Select.result _ _ _ _ (when_selected _ _ _ _ c.in-Select.is) c.meet_name-in-Select.ensures

pub meet_target-returns-in-Part : goal.meet_target-returns-in-Part
meet_target-returns-in-Part t c = same_end c.meet_name-in-Part.result _ _ _ _ (when_bounded _ _ _ c.in-Part.is) c.meet_name-in-Part.ensures

pub meet_target-returns-in-Concat : goal.meet_target-returns-in-Concat
meet_target-returns-in-Concat t c = same_end c.meet_targets.result _ _ _ _ (when_joined _ _ _ _ c.in-Concat.is c.as_slice.ensures) c.meet_targets.ensures

pub meet_targets-loop-target-init : goal.meet_targets-loop-target-init
meet_targets-loop-target-init t c = each_begins _ _ _

pub meet_targets-loop-target-preserved : goal.meet_targets-loop-target-preserved
meet_targets-loop-target-preserved t c = each_next _ _ _ _ _ _ _ c.loop-target-test.true c.target-item.is c.in_ok-meet_target.ensures c.loop-target.invariant

pub meet_targets-returns : goal.meet_targets-returns
meet_targets-returns t c = each_ends _ _ _ _ _ c.loop-target-test.false c.loop-target.invariant
