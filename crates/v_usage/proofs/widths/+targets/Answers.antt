use Rattle.std.proofs.Common.{sym, ap, ◌∙◌}
use Rattle.v_usage.specs.Bits.{up_to_129}
use Rattle.v_usage.proofs.Counting.{counts_next}
use Rattle.v_usage.proofs.Variants.{target_name, target_select, target_part, target_concat}
use Rattle.v_usage.proofs.Arms.{same_answer, targets_are}
use Rattle.v_usage.proofs.widths.+targets.Goals as goal

pub target_width-returns-in-Name : goal.target_width-returns-in-Name
target_width-returns-in-Name t c = c.name_width.ensures ∙ ap up_to_129 (sym (target_name c.args.names.now c.args.target.now _ c.in-Name.is))

pub target_width-returns-in-Select : goal.target_width-returns-in-Select
target_width-returns-in-Select t c = c.selected_width.ensures ∙ ap up_to_129 (sym (target_select c.args.names.now c.args.target.now _ _ _ c.in-Select.is))

pub target_width-returns-in-Part : goal.target_width-returns-in-Part
target_width-returns-in-Part t c = same_answer c.part_width.result _ _ (ap up_to_129 (sym (target_part c.args.names.now c.args.target.now _ _ c.in-Part.is))) c.part_width.ensures

pub target_width-returns-in-Concat : goal.target_width-returns-in-Concat
target_width-returns-in-Concat t c =
    same_answer c.targets_width.result _ _ (ap up_to_129 (sym (target_concat c.args.names.now c.args.target.now _ _ _ c.in-Concat.is c.as_slice.ensures))) c.targets_width.ensures

pub targets_width-loop-target-preserved : goal.targets_width-loop-target-preserved
targets_width-loop-target-preserved t c = counts_next _ _ _ _ _ _ _ _ _ c.loop-target-test.true c.target-item.is c.in_ok-one.ensures c.beside-all.ensures c.loop-target.invariant

pub targets_width-returns : goal.targets_width-returns
targets_width-returns t c = targets_are c.args.names.now c.args.targets.now _ _ c.loop-target-test.false c.loop-target.invariant
