use denote.Param.Weighed.{most, at_most}
use Rattle.std.proofs.Common.{ap, sym, ◌∙◌, arith}
use Rattle.v_meaning.specs.Targets.{TargetSense}
use Rattle.v_core.proofs.statement.TypedTarget.TheLaws.{the_size}
use Rattle.v_core.specs.declared.statement.TypedTarget.{TypedTarget}
use Rattle.v_values.specs.Kept.{is_kept_target}
use Rattle.v_values.proofs.Chains.{one_of}
use Rattle.v_values.proofs.TargetLaws.{parts_deeper, part_means, select_means, concat_target, concat_word, concat_narrow, concat_keeps}
use Rattle.v_values.proofs.TargetTurns.{word_of_part, word_of_select, width_next, width_last}
use Rattle.v_values.proofs.targets.+measuring.Goals as goal

pub target_width-returns-in-Part : goal.target_width-returns-in-Part
target_width-returns-in-Part t c = record {
  width = λ names. sym (ap (λ (s : TargetSense). s.width) (part_means c.args.target.now _ _ _ _ names c.in-Part.is));
  word = word_of_part c.args.target.now _ _ _ _ c.requires.kept.0 c.requires.kept.1 c.in-Part.is c.requires.kept.2;
}

pub target_width-returns-in-Select : goal.target_width-returns-in-Select
target_width-returns-in-Select t c = record {
  width = λ names. sym (ap (λ (s : TargetSense). s.width) (select_means c.args.target.now _ _ _ _ _ _ names c.in-Select.is));
  word = word_of_select c.args.target.now _ _ _ _ _ _ c.requires.kept.0 c.requires.kept.1 c.in-Select.is c.requires.kept.2;
}

pub target_width-parts_width-requires : goal.target_width-parts_width-requires
target_width-parts_width-requires t c = (
  omega (arith, ap the_size c.in-Concat.is, parts_deeper c.in-Concat.parts, ap (most the_size) c.as_slice.ensures),
  (
    c.requires.kept.0,
    c.requires.kept.1,
    concat_keeps c.args.target.now _ _ c.requires.kept.0 c.requires.kept.1 c.in-Concat.is c.as_slice.ensures c.requires.kept.2,
    concat_narrow c.args.target.now _ _ c.requires.kept.0 c.requires.kept.1 c.in-Concat.is c.as_slice.ensures c.requires.kept.2,
  ),
)

pub target_width-returns-in-Concat : goal.target_width-returns-in-Concat
target_width-returns-in-Concat t c = record {
  width = λ names. c.parts_width.ensures.width names ∙ sym (ap (λ (s : TargetSense). s.width) (concat_target c.args.target.now _ _ names c.in-Concat.is c.as_slice.ensures));
  word = rw (c.parts_width.ensures.width c.requires.kept.0) (concat_word c.args.target.now _ _ c.requires.kept.0 c.requires.kept.1 c.in-Concat.is c.as_slice.ensures c.requires.kept.2);
}

pub parts_width-target_width-width-requires : goal.parts_width-target_width-width-requires
parts_width-target_width-width-requires t c = (
  omega (arith, at_most the_size c.args.parts.now c.loop-part.part-index c.part-item.result c.loop-part-test.true, ap the_size c.part-item.is),
  (
    c.requires.kept.0,
    c.requires.kept.1,
    one_of (λ (x : TypedTarget). is_kept_target x c.requires.kept.0 c.requires.kept.1) c.args.parts.now _ _ c.loop-part-test.true c.part-item.is c.requires.kept.2,
  ),
)

pub parts_width-loop-part-preserved : goal.parts_width-loop-part-preserved
parts_width-loop-part-preserved t c = λ names.
    width_next names c.args.parts.now _ _ _ _ c.loop-part-test.true c.part-item.is (c.target_width-width.ensures.width names) (c.loop-part.invariant names)

pub parts_width-returns : goal.parts_width-returns
parts_width-returns t c = record { width = λ names. width_last names c.args.parts.now _ _ c.loop-part-test.false (c.loop-part.invariant names) }
