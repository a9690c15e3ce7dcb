use Rattle.v_meaning.specs.Sites.{target_sites}
use Rattle.v_typing.specs.Sound.{is_sound_target}
use Rattle.v_sites.proofs.Adding.{none_more, same_more, on_ok, each_next, each_ends}
use Rattle.v_sites.proofs.Sound.{target_index_sound, targets_are_sound}
use Rattle.v_sites.proofs.StmtSites.{target_name, target_select, target_part, target_concat}
use Rattle.v_sites.proofs.stmts.+targets.Goals as goal

pub add_target-returns-in-Name : goal.add_target-returns-in-Name
add_target-returns-in-Name t c = none_more _ _ _ (λ h. target_name c.args.names.now c.args.target.now _ c.in-Name.is)

pub add_target-returns-in-Select : goal.add_target-returns-in-Select
add_target-returns-in-Select t c =
    on_ok c.add_expr.result (same_more (target_index_sound c.args.names.now c.args.target.now _ _ _ c.in-Select.is) (target_select c.args.names.now c.args.target.now _ _ _ c.in-Select.is)) c.add_expr.ensures

pub add_target-returns-in-Part : goal.add_target-returns-in-Part
add_target-returns-in-Part t c = none_more _ _ _ (λ h. target_part c.args.names.now c.args.target.now _ _ c.in-Part.is)

pub add_target-returns-in-Concat : goal.add_target-returns-in-Concat
add_target-returns-in-Concat t c =
    on_ok c.add_targets.result (same_more (targets_are_sound c.args.names.now c.args.target.now _ _ _ c.in-Concat.is c.as_slice.ensures) (target_concat c.args.names.now c.args.target.now _ _ _ c.in-Concat.is c.as_slice.ensures))
    c.add_targets.ensures

pub add_targets-loop-target-preserved : goal.add_targets-loop-target-preserved
add_targets-loop-target-preserved t c =
    each_next (is_sound_target c.args.names.now) (target_sites c.args.names.now) c.loop-target-test.true c.target-item.is c.in_ok-add_target.ensures c.loop-target.invariant

pub add_targets-returns : goal.add_targets-returns
add_targets-returns t c = each_ends (is_sound_target c.args.names.now) (target_sites c.args.names.now) c.loop-target-test.false c.loop-target.invariant
