use denote.Param.Weighed.{most, at_most}
use Rattle.std.proofs.Common.{◌≡◌, ◌<◌, ◌++◌, ap, sym, subst, ◌∙◌, refl, arith, ℕ, List, true}
use Rattle.std.specs.Prelude.{◌^◌}
use Rattle.v_meaning.specs.Views.{Write}
use Rattle.v_meaning.specs.Targets.{TargetSense}
use Rattle.v_core.proofs.statement.TypedTarget.TheLaws.{the_size}
use Rattle.v_core.specs.declared.statement.TypedTarget.{TypedTarget}
use Rattle.v_core.specs.Formed.{is_width}
use Rattle.v_core.specs.Values.{entry_at, index_in}
use Rattle.v_values.specs.Kept.{is_kept_target}
use Rattle.v_values.specs.Moments.{has_width}
use Rattle.v_values.specs.Writes.{all_fit}
use Rattle.v_values.proofs.Tests.{has_bit, within}
use Rattle.v_values.proofs.Chains.{next_is, one_of}
use Rattle.v_values.specs.Queues.{write_counts}
use Rattle.v_values.proofs.Counts.{concat_count}
use Rattle.v_values.proofs.TargetLaws.{parts_deeper, concat_target, select_keeps, concat_keeps}
use Rattle.v_values.proofs.TargetTurns.{part_bits, behind_next}
use Rattle.v_values.proofs.TargetFits.{part_fits, select_fits, select_writes}
use Rattle.v_values.proofs.targets.+queueing.Goals as goal

-- ---- bits of a variable

pub enqueue-returns-in-Part-clause-fit : goal.enqueue-returns-in-Part-clause-fit
enqueue-returns-in-Part-clause-fit t c =
    part_fits c.args.target.now _ _ _ _ c.args.names.now _ c.args.now.now.shape _ _ c.in-Part.is c.requires.kept
    (sym (λ i. has_width c.args.now.now.shape (c.look_up.ensures.kind i) (c.look_up.ensures.width i)) ∙ c.look_up.ensures.fits c.args.now.now.shape c.requires.fits) c.requires.below

-- ---- a bit or word

pub enqueue-value-index-requires-clause-kept : goal.enqueue-value-index-requires-clause-kept
enqueue-value-index-requires-clause-kept t c = (select_keeps c.args.target.now _ _ _ _ _ _ c.args.names.now c.args.now.now.shape.sites c.in-Select.is c.requires.kept).index_kept

pub enqueue-value-index-requires-clause-sited : goal.enqueue-value-index-requires-clause-sited
enqueue-value-index-requires-clause-sited t c = (select_keeps c.args.target.now _ _ _ _ _ _ c.args.names.now c.args.now.now.shape.sites c.in-Select.is c.requires.kept).sited

pub enqueue-index_in-index-requires-clause-has_bit : goal.enqueue-index_in-index-requires-clause-has_bit
enqueue-index_in-index-requires-clause-has_bit t c =
    has_bit c.in-Select.width
    (subst (λ (n : ℕ). is_width n ≡ true) (select_keeps c.args.target.now _ _ _ _ _ _ c.args.names.now c.args.now.now.shape.sites c.in-Select.is c.requires.kept).index_has c.value-index.ensures.word)

pub enqueue-index_in-index-requires-clause-within : goal.enqueue-index_in-index-requires-clause-within
enqueue-index_in-index-requires-clause-within t c =
    within c.in-Select.width
    (subst (λ (n : ℕ). is_width n ≡ true) (select_keeps c.args.target.now _ _ _ _ _ _ c.args.names.now c.args.now.now.shape.sites c.in-Select.is c.requires.kept).index_has c.value-index.ensures.word)

pub enqueue-returns-in-Select-clause-writes : goal.enqueue-returns-in-Select-clause-writes
enqueue-returns-in-Select-clause-writes t c =
    c.push_selected.ensures.writes (entry_at c.args.names.now c.in-Select.name) c.args.now.now.view (sym c.look_up-in-Select.ensures.width) (sym c.look_up-in-Select.ensures.low)
    ∙ ap (λ (ws : List Write). c.args.queue.now.writes ++ ws)
    (select_writes c.args.target.now _ _ _ _ _ _ c.args.names.now c.args.now.now.view c.args.bits _ _ c.in-Select.is c.look_up-in-Select.ensures.kind
    (c.index_in-index.ensures ∙ ap (index_in c.in-Select.width c.in-Select.signed) c.value-index.ensures.value))

pub enqueue-returns-in-Select-clause-fit : goal.enqueue-returns-in-Select-clause-fit
enqueue-returns-in-Select-clause-fit t c =
    select_fits c.args.target.now _ _ _ _ _ _ c.args.names.now _ c.args.now.now.shape _ _ c.in-Select.is c.requires.kept
    (sym (λ i. has_width c.args.now.now.shape (c.look_up-in-Select.ensures.kind i) (c.look_up-in-Select.ensures.width i)) ∙ c.look_up-in-Select.ensures.fits c.args.now.now.shape c.requires.fits) c.requires.below

-- ---- parts side by side

pub enqueue-enqueue_parts-requires : goal.enqueue-enqueue_parts-requires
enqueue-enqueue_parts-requires t c = (
  omega (arith, ap the_size c.in-Concat.is, parts_deeper c.in-Concat.parts, ap (most the_size) c.as_slice.ensures),
  (
    concat_keeps c.args.target.now _ _ c.args.names.now _ c.in-Concat.is c.as_slice.ensures c.requires.kept,
    (
      c.requires.fits,
      (
        c.target_width-width.ensures.width c.args.names.now ∙ ap (λ (m : TargetSense). m.width) (concat_target c.args.target.now _ _ c.args.names.now c.in-Concat.is c.as_slice.ensures),
        (
          within _ c.target_width-width.ensures.word,
          (
            subst (λ (n : ℕ). c.args.bits < 2 ^ n) (sym (c.target_width-width.ensures.width c.args.names.now)) c.requires.below,
            omega (arith, concat_count c.args.target.now _ _ c.in-Concat.is c.as_slice.ensures, c.requires.room),
          ),
        ),
      ),
    ),
  ),
)

pub enqueue-returns-in-Concat-clause-writes : goal.enqueue-returns-in-Concat-clause-writes
enqueue-returns-in-Concat-clause-writes t c =
    c.enqueue_parts.ensures.writes
    ∙ ap (λ (m : TargetSense). c.args.queue.now.writes ++ m.writes c.args.now.now.view c.args.bits)
    (sym (concat_target c.args.target.now _ _ c.args.names.now c.in-Concat.is c.as_slice.ensures))

pub enqueue-returns-in-Concat-clause-fit : goal.enqueue-returns-in-Concat-clause-fit
enqueue-returns-in-Concat-clause-fit t c =
    ap (λ (m : TargetSense). all_fit c.args.now.now.shape (m.writes c.args.now.now.view c.args.bits)) (concat_target c.args.target.now _ _ c.args.names.now c.in-Concat.is c.as_slice.ensures)
    ∙ c.enqueue_parts.ensures.fit

pub enqueue_parts-enqueue-requires : goal.enqueue_parts-enqueue-requires
enqueue_parts-enqueue-requires t c =
    let next = next_is c.args.parts.now _ _ c.loop-part-test.true c.part-item.is in (
      omega (arith, at_most the_size c.args.parts.now c.loop-part.part-index c.part-item.result c.loop-part-test.true, ap the_size c.part-item.is),
      (
        one_of (λ (x : TypedTarget). is_kept_target x c.args.names.now c.args.now.now.shape.sites) c.args.parts.now _ _ c.loop-part-test.true c.part-item.is c.requires.kept,
        (
          c.requires.fits,
          (
            part_bits c.args.names.now _ _ c.part-item.result _ _ _ _ _ _ _ _ _ _ _ next (c.target_width-width.ensures.width c.args.names.now) refl refl c.loop-part.invariant.behind,
            omega (arith, ap write_counts next, c.loop-part.invariant.few, c.loop-part.invariant.room, c.requires.room),
          ),
        ),
      ),
    )

pub enqueue_parts-loop-part-preserved : goal.enqueue_parts-loop-part-preserved
enqueue_parts-loop-part-preserved t c =
    let next = next_is c.args.parts.now _ _ c.loop-part-test.true c.part-item.is in
    record {
      behind = behind_next c.args.names.now _ _ c.part-item.result _ _ _ _ _ _ _ _ _ _ _ _ _ next (c.target_width-width.ensures.width c.args.names.now) refl refl c.cut-left.ensures.value
          c.enqueue.ensures.writes c.enqueue.ensures.fit c.loop-part.invariant.behind;
      few = omega (arith, ap write_counts next, c.loop-part.invariant.few, c.enqueue.ensures.few);
      room = c.enqueue.ensures.room ∙ c.loop-part.invariant.room;
    }

pub enqueue-returns-in-Concat-clause-few : goal.enqueue-returns-in-Concat-clause-few
enqueue-returns-in-Concat-clause-few t c = omega (arith, concat_count c.args.target.now _ _ c.in-Concat.is c.as_slice.ensures, c.enqueue_parts.ensures.few)
