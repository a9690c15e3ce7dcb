use denote.Param.Weighed.{most, at_most}
use Rattle.std.proofs.Common.{arith, ap, ◌∙◌}
use Rattle.v_syntax.proofs.stmt.Target.TheLaws.{the_size}
use Rattle.v_statements.proofs.Depths.{parts_deeper}
use Rattle.v_statements.proofs.Turns.{one_of, one_same}
use Rattle.v_statements.proofs.TargetLaws.{as_target, when_name, when_select, when_part, when_concat, sound_index, sound_bounds, sound_parts, some_parts, narrow_parts, room, more_bits, joined_made}
use Rattle.v_statements.proofs.FormLaws.{all_push, next_keeps}
use Rattle.v_statements.proofs.ReadLaws.{read_index, read_parts, this_one}
use Rattle.v_core.specs.declared.statement.TypedTarget.{TypedTarget}
use Rattle.v_core.specs.Sited.{SitedIn}
use Rattle.v_core.specs.SitedCores.{is_sited_target}
use Rattle.v_statements.specs.Sited.{TargetRead}
use Rattle.v_typing.specs.Sound.{is_sound_target}
use Rattle.v_statements.proofs.targets.+targets.Goals as goal

pub measured-returns-in-Name-clause-target : goal.measured-returns-in-Name-clause-target
measured-returns-in-Name-clause-target t c = as_target c.args.names.now _ _ _ (when_name c.args.names.now c.args.sites.now c.args.target.now _ c.in-Name.is) c.whole.ensures.target

pub measured-opened-requires : goal.measured-opened-requires
measured-opened-requires t c = record { sound = sound_index c.args.names.now c.args.target.now _ _ _ c.in-Select.is c.requires.sound }

pub measured-returns-in_ok-t-in-Select-clause-target : goal.measured-returns-in_ok-t-in-Select-clause-target
measured-returns-in_ok-t-in-Select-clause-target t c =
    as_target c.args.names.now _ _ _ (when_select c.args.names.now c.args.sites.now c.args.target.now _ _ _ _ c.in-Select.is c.in_ok-index-in-Select.ensures.value) c.in_ok-t-in-Select.ensures.target

pub measured-selected-requires : goal.measured-selected-requires
measured-selected-requires t c = record { index = c.in_ok-index-in-Select.ensures.form }

pub measured-bounded-requires : goal.measured-bounded-requires
measured-bounded-requires t c = record { sound = sound_bounds c.args.names.now c.args.target.now _ _ c.in-Part.is c.requires.sound }

pub measured-returns-in_ok-t-in-Part-clause-target : goal.measured-returns-in_ok-t-in-Part-clause-target
measured-returns-in_ok-t-in-Part-clause-target t c =
    as_target c.args.names.now _ _ _
    (when_part c.args.names.now c.args.sites.now c.args.target.now _ _ c.in-Part.is (sound_bounds c.args.names.now c.args.target.now _ _ c.in-Part.is c.requires.sound)) c.in_ok-t-in-Part.ensures.target

pub measured-joined-requires : goal.measured-joined-requires
measured-joined-requires t c = (
  omega (arith, ap the_size c.in-Concat.is, parts_deeper c.in-Concat.brace c.in-Concat.parts, ap (most the_size) c.as_slice.ensures),
  (
    sound_parts c.args.names.now c.args.target.now _ _ _ c.in-Concat.is c.as_slice.ensures c.requires.sound,
    (
      some_parts c.args.names.now c.args.sites.now c.args.target.now _ _ _ c.in-Concat.is c.as_slice.ensures c.requires.sound,
      narrow_parts c.args.names.now c.args.sites.now c.args.target.now _ _ _ c.in-Concat.is c.as_slice.ensures c.requires.sound,
    ),
  ),
)

pub measured-returns-in_ok-t-in-Concat-clause-target : goal.measured-returns-in_ok-t-in-Concat-clause-target
measured-returns-in_ok-t-in-Concat-clause-target t c =
    as_target c.args.names.now _ _ _ (when_concat c.args.names.now c.args.sites.now c.args.target.now _ _ _ c.in-Concat.is c.as_slice.ensures) c.in_ok-t-in-Concat.ensures.target

pub joined-measured-requires : goal.joined-measured-requires
joined-measured-requires t c = (
  omega (arith, at_most the_size c.args.parts.now c.loop-part.part-index c.part-item.result c.loop-part-test.true, ap the_size c.part-item.is),
  one_of (is_sound_target c.args.names.now) c.args.parts.now _ _ c.loop-part-test.true c.part-item.is c.requires.sound,
)

pub joined-wider-width-requires : goal.joined-wider-width-requires
joined-wider-width-requires t c =
    room c.args.names.now c.args.sites.now c.args.parts.now _ _ _ _ _ c.loop-part-test.true c.part-item.is c.in_ok-one.ensures.target.measured c.loop-part.invariant.1 c.requires.narrow

pub joined-loop-part-preserved : goal.joined-loop-part-preserved
joined-loop-part-preserved t c = (
  one_same _ _ c.loop-part.typed _ c.args.parts.now _ _ _ c.loop-part-test.true c.part-item.is c.in_ok-push.ensures.ok c.in_ok-one.ensures.target.means c.loop-part.invariant.0,
  more_bits c.args.names.now c.args.sites.now c.args.parts.now _ _ _ _ _ _ c.loop-part-test.true c.part-item.is c.in_ok-one.ensures.target.measured c.wider-width.ensures c.loop-part.invariant.1,
  next_keeps c.args.names.now c.loop-part.typed _ _ _ _ _ c.in_ok-push.ensures.ok c.wider-width.ensures c.in_ok-one.ensures.target.keeps c.loop-part.invariant.2,
  λ widths read.
      all_push (λ (x : TypedTarget). is_sited_target x c.args.names.now widths) c.loop-part.typed _ _ c.in_ok-push.ensures.ok
      (c.in_ok-one.ensures.sited widths (this_one (TargetRead widths c.args.sites.now c.args.names.now) c.args.parts.now _ _ c.loop-part-test.true c.part-item.is read)) (c.loop-part.invariant.3 widths read),
)

pub joined-returns-clause-target : goal.joined-returns-clause-target
joined-returns-clause-target t c =
    joined_made c.args.names.now c.args.sites.now c.args.parts.now _ _ c.loop-part.typed _ c.loop-part-test.false c.joined-target.ensures.value c.loop-part.invariant.0 c.loop-part.invariant.1
    c.joined-target.ensures.form c.loop-part.invariant.2 c.requires.some c.requires.narrow

-- ---- sites

pub measured-returns-in-Name-clause-sited : goal.measured-returns-in-Name-clause-sited
measured-returns-in-Name-clause-sited t c widths read = ap (λ (f : SitedIn). f c.args.names.now widths) c.whole.ensures.sited

pub measured-returns-in_ok-t-in-Select-clause-sited : goal.measured-returns-in_ok-t-in-Select-clause-sited
measured-returns-in_ok-t-in-Select-clause-sited t c widths read =
    ap (λ (f : SitedIn). f c.args.names.now widths) c.in_ok-t-in-Select.ensures.sited
    ∙ c.in_ok-index-in-Select.ensures.sited widths (read_index widths c.args.sites.now c.args.names.now c.args.target.now _ _ _ c.in-Select.is read)

pub measured-returns-in_ok-t-in-Part-clause-sited : goal.measured-returns-in_ok-t-in-Part-clause-sited
measured-returns-in_ok-t-in-Part-clause-sited t c widths read = ap (λ (f : SitedIn). f c.args.names.now widths) c.in_ok-t-in-Part.ensures.sited

pub measured-returns-in_ok-t-in-Concat-clause-sited : goal.measured-returns-in_ok-t-in-Concat-clause-sited
measured-returns-in_ok-t-in-Concat-clause-sited t c widths read =
    c.in_ok-t-in-Concat.ensures.sited widths (read_parts widths c.args.sites.now c.args.names.now c.args.target.now _ _ _ c.in-Concat.is c.as_slice.ensures read)

pub joined-returns-clause-sited : goal.joined-returns-clause-sited
joined-returns-clause-sited t c widths read = ap (λ (f : SitedIn). f c.args.names.now widths) c.joined-target.ensures.sited ∙ c.loop-part.invariant.3 widths read
