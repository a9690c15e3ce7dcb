use denote.Param.Weighed.{most, at_most}
use Rattle.std.proofs.Common.{arith, ap, ◌∙◌}
use Rattle.v_meaning.specs.Expressions.{number_sense, open_at}
use Rattle.v_meaning.specs.declared.literal.Literal.{Literal}
use Rattle.v_meaning.specs.Proper.{is_sound}
use Rattle.v_syntax.specs.declared.expr.Expr.{Expr}
use Rattle.v_syntax.specs.declared.expr.BinaryOperator.{BinaryOperator}
use Rattle.v_syntax.proofs.expr.Expr.TheLaws.{the_size}
use Rattle.v_typing.proofs.Variants.{when_number, when_name, when_select, when_unary, when_cast, when_conditional, when_chain, when_concat, when_part, when_replicate}
use Rattle.v_typing.proofs.SoundLaws.{sound_number, sound_select, sound_unary, sound_cast, sound_condition, sound_then, sound_otherwise, sound_first, sound_links, sound_parts, sound_narrow, sound_count, sound_room, sound_inner, sound_inner_narrow, sound_part, sound_some, sound_inner_some}
use Rattle.v_core.specs.Values.{Value}
use Rattle.v_typing.proofs.Depths.{link_size, select_deeper, unary_deeper, cast_deeper, condition_deeper, then_deeper, otherwise_deeper, first_deeper, links_deeper, parts_deeper, inner_deeper}
use Rattle.v_typing.proofs.Turns.{this_passes, others_pass, chained_next, joined_next, room, joined_done}
use Rattle.v_typing.proofs.OperatorLaws.{Meaning}
use Rattle.v_typing.proofs.KeepLaws.{both, joined_word, concat_has, next_has}
use Rattle.v_typing.proofs.SitedLaws.{next_sited}
use Rattle.v_typing.proofs.OpeningLaws.{read_unary, read_cast, read_select, read_conditional, read_chain, read_concat, read_replicate, read_link, read_part}
use Rattle.v_core.specs.Sited.{SitedIn}
use Rattle.v_typing.proofs.opening.+opening.Goals as goal

pub opened-literal-requires : goal.opened-literal-requires
opened-literal-requires t c = sound_number c.args.names.now c.args.x.now _ c.in-Number.is c.requires.sound

pub opened-returns-in-Number-clause-value : goal.opened-returns-in-Number-clause-value
opened-returns-in-Number-clause-value t c = ap (λ (f : Meaning). f c.args.names.now) c.number.ensures.value ∙ ap (λ (l : Literal). number_sense l (open_at c.args.sites.now c.in-Number.n.at)) c.literal.ensures.value ∙ when_number c.args.names.now c.args.sites.now c.args.x.now _ c.in-Number.is

pub opened-returns-in-Name-clause-value : goal.opened-returns-in-Name-clause-value
opened-returns-in-Name-clause-value t c = c.name.ensures.value ∙ when_name c.args.names.now c.args.sites.now c.args.x.now _ c.in-Name.is

pub opened-returns-in_ok-o-in-Select-clause-value : goal.opened-returns-in_ok-o-in-Select-clause-value
opened-returns-in_ok-o-in-Select-clause-value t c = c.in_ok-o-in-Select.ensures.value ∙ when_select c.args.names.now c.args.sites.now c.args.x.now _ _ _ _ _ c.in-Select.is c.get.ensures c.in_ok-index-in-Select.ensures.value

pub opened-returns-in_ok-o-in-Unary-clause-value : goal.opened-returns-in_ok-o-in-Unary-clause-value
opened-returns-in_ok-o-in-Unary-clause-value t c = ap (λ (f : Meaning). f c.args.names.now) c.in_ok-o-in-Unary.ensures.value ∙ when_unary c.args.names.now c.args.sites.now c.args.x.now _ _ _ _ c.in-Unary.is c.get-in-Unary.ensures c.in_ok-x-in-Unary.ensures.value

pub opened-returns-in_ok-o-in-Chain-clause-value : goal.opened-returns-in_ok-o-in-Chain-clause-value
opened-returns-in_ok-o-in-Chain-clause-value t c = c.in_ok-o-in-Chain.ensures.value ∙ when_chain c.args.names.now c.args.sites.now c.args.x.now _ _ _ _ _ c.in-Chain.is c.get-in-Chain.ensures c.as_slice.ensures c.in_ok-first-in-Chain.ensures.value

pub opened-returns-in_ok-o-in-Conditional-clause-value : goal.opened-returns-in_ok-o-in-Conditional-clause-value
opened-returns-in_ok-o-in-Conditional-clause-value t c = ap (λ (f : Meaning). f c.args.names.now) c.in_ok-o-in-Conditional.ensures.value ∙ when_conditional c.args.names.now c.args.sites.now c.args.x.now _ _ _ _ _ _ _ _ _ c.in-Conditional.is c.get-in-Conditional.ensures c.get-in-Conditional-2.ensures c.get-in-Conditional-3.ensures c.in_ok-c-in-Conditional.ensures.value c.in_ok-x-in-Conditional.ensures.value c.in_ok-y-in-Conditional.ensures.value

pub opened-returns-in_ok-o-in-Concat-clause-value : goal.opened-returns-in_ok-o-in-Concat-clause-value
opened-returns-in_ok-o-in-Concat-clause-value t c = c.in_ok-o-in-Concat.ensures.value ∙ when_concat c.args.names.now c.args.sites.now c.args.x.now _ _ _ c.in-Concat.is c.as_slice-in-Concat.ensures

pub opened-returns-in_ok-o-in-Cast-clause-value : goal.opened-returns-in_ok-o-in-Cast-clause-value
opened-returns-in_ok-o-in-Cast-clause-value t c = ap (λ (f : Meaning). f c.args.names.now) c.in_ok-o-in-Cast.ensures.value ∙ when_cast c.args.names.now c.args.sites.now c.args.x.now _ _ _ _ c.in-Cast.is c.get-in-Cast.ensures c.in_ok-x-in-Cast.ensures.value

pub chained-loop-operator-preserved : goal.chained-loop-operator-preserved
chained-loop-operator-preserved t c = (
  chained_next c.args.names.now c.args.sites.now _ _ _ _ c.args.links.now _ _ c.loop-operator-test.true c.loop-operator-item.is c.in_ok-y.ensures.value (ap (λ (f : Meaning). f c.args.names.now) c.in_ok-all.ensures.value) c.loop-operator.invariant.0,
  others_pass (λ (link : BinaryOperator × Expr). is_sound c.args.names.now link.1) c.args.links.now _ _ c.loop-operator-test.true c.loop-operator-item.is c.loop-operator.invariant.1,
  λ h. c.in_ok-all.ensures.form c.args.names.now (c.loop-operator.invariant.2 h) c.in_ok-y.ensures.form,
  λ widths read h. ap (λ (f : SitedIn). f c.args.names.now widths) c.in_ok-all.ensures.sited ∙ both (c.loop-operator.invariant.3 widths read h) (c.in_ok-y.ensures.sited widths (read_link widths c.args.sites.now c.args.names.now c.args.links.now _ _ c.loop-operator-test.true c.loop-operator-item.is read)),
)

pub joined-wider-width-requires : goal.joined-wider-width-requires
joined-wider-width-requires t c = room c.args.names.now c.args.sites.now c.args.parts.now _ _ _ c.loop-x.typed _ _ c.loop-x-test.true c.x-item.is c.in_ok-one.ensures.value c.loop-x.invariant.0 c.requires.narrow

pub joined-loop-x-preserved : goal.joined-loop-x-preserved
joined-loop-x-preserved t c =
    rw c.wider-width.ensures (
      joined_next c.args.names.now c.args.sites.now c.args.parts.now _ _ _ c.loop-x.typed _ _ _ _ c.loop-x-test.true c.x-item.is c.in_ok-one.ensures.value c.in_ok-push.ensures.ok (ap (λ (f : Value). f c.args.names.now) c.in_ok-t.ensures.value) c.loop-x.invariant.0,
      others_pass (is_sound c.args.names.now) c.args.parts.now _ _ c.loop-x-test.true c.x-item.is c.loop-x.invariant.1,
      next_has c.args.names.now c.loop-x.typed _ _ c.in_ok-one.one _ c.in_ok-push.ensures.ok c.in_ok-one.ensures.form (c.in_ok-t.ensures.form c.args.names.now) c.loop-x.invariant.2,
      λ widths read. next_sited c.args.names.now widths c.loop-x.typed _ _ c.in_ok-push.ensures.ok (c.loop-x.invariant.3 widths read) (ap (λ (f : SitedIn). f c.args.names.now widths) c.in_ok-t.ensures.sited ∙ c.in_ok-one.ensures.sited widths (read_part widths c.args.sites.now c.args.names.now c.args.parts.now _ _ c.loop-x-test.true c.x-item.is read)),
    )

pub joined-returns-clause-value : goal.joined-returns-clause-value
joined-returns-clause-value t c = joined_done c.args.names.now c.args.sites.now c.args.parts.now _ _ c.loop-x.typed _ _ _ c.loop-x-test.false c.leaf.ensures.value c.side_by_side.ensures.value c.loop-x.invariant.0

pub opened-opened-requires : goal.opened-opened-requires
opened-opened-requires t c = (omega (arith, ap the_size c.in-Select.is, select_deeper c.in-Select.name c.in-Select.bracket c.in-Select.index, ap the_size c.get.ensures), sound_select c.args.names.now c.args.x.now _ _ _ _ c.in-Select.is c.get.ensures c.requires.sound)

pub opened-opened-requires-in-Unary : goal.opened-opened-requires-in-Unary
opened-opened-requires-in-Unary t c = (omega (arith, ap the_size c.in-Unary.is, unary_deeper c.in-Unary.operator c.in-Unary.x, ap the_size c.get-in-Unary.ensures), sound_unary c.args.names.now c.args.x.now _ _ _ c.in-Unary.is c.get-in-Unary.ensures c.requires.sound)

pub opened-opened-requires-in-Chain : goal.opened-opened-requires-in-Chain
opened-opened-requires-in-Chain t c = (omega (arith, ap the_size c.in-Chain.is, first_deeper c.in-Chain.first c.in-Chain.links, ap the_size c.get-in-Chain.ensures), sound_first c.args.names.now c.args.x.now _ _ _ c.in-Chain.is c.get-in-Chain.ensures c.requires.sound)

pub opened-opened-requires-in-Conditional : goal.opened-opened-requires-in-Conditional
opened-opened-requires-in-Conditional t c = (omega (arith, ap the_size c.in-Conditional.is, condition_deeper c.in-Conditional.c c.in-Conditional.x c.in-Conditional.y, ap the_size c.get-in-Conditional.ensures), sound_condition c.args.names.now c.args.x.now _ _ _ _ c.in-Conditional.is c.get-in-Conditional.ensures c.requires.sound)

pub opened-opened-requires-in-Conditional-2 : goal.opened-opened-requires-in-Conditional-2
opened-opened-requires-in-Conditional-2 t c = (omega (arith, ap the_size c.in-Conditional.is, then_deeper c.in-Conditional.c c.in-Conditional.x c.in-Conditional.y, ap the_size c.get-in-Conditional-2.ensures), sound_then c.args.names.now c.args.x.now _ _ _ _ c.in-Conditional.is c.get-in-Conditional-2.ensures c.requires.sound)

pub opened-opened-requires-in-Conditional-3 : goal.opened-opened-requires-in-Conditional-3
opened-opened-requires-in-Conditional-3 t c = (omega (arith, ap the_size c.in-Conditional.is, otherwise_deeper c.in-Conditional.c c.in-Conditional.x c.in-Conditional.y, ap the_size c.get-in-Conditional-3.ensures), sound_otherwise c.args.names.now c.args.x.now _ _ _ _ c.in-Conditional.is c.get-in-Conditional-3.ensures c.requires.sound)

pub opened-opened-requires-in-Cast : goal.opened-opened-requires-in-Cast
opened-opened-requires-in-Cast t c = (omega (arith, ap the_size c.in-Cast.is, cast_deeper c.in-Cast.sign c.in-Cast.x, ap the_size c.get-in-Cast.ensures), sound_cast c.args.names.now c.args.x.now _ _ _ c.in-Cast.is c.get-in-Cast.ensures c.requires.sound)

pub opened-chained-requires : goal.opened-chained-requires
opened-chained-requires t c = (omega (arith, ap the_size c.in-Chain.is, links_deeper c.in-Chain.first c.in-Chain.links, ap (most link_size) c.as_slice.ensures), sound_links c.args.names.now c.args.x.now _ _ _ c.in-Chain.is c.as_slice.ensures c.requires.sound)

pub opened-joined-requires : goal.opened-joined-requires
opened-joined-requires t c = (omega (arith, ap the_size c.in-Concat.is, parts_deeper c.in-Concat.brace c.in-Concat.parts, ap (most the_size) c.as_slice-in-Concat.ensures), (sound_parts c.args.names.now c.args.x.now _ _ _ c.in-Concat.is c.as_slice-in-Concat.ensures c.requires.sound, sound_narrow c.args.names.now c.args.sites.now c.args.x.now _ _ _ c.in-Concat.is c.as_slice-in-Concat.ensures c.requires.sound))

pub chained-opened-requires : goal.chained-opened-requires
chained-opened-requires t c = (omega (arith, at_most link_size c.args.links.now c.loop-operator.operator-index c.loop-operator-item.result c.loop-operator-test.true, ap link_size c.loop-operator-item.is), this_passes (λ (link : BinaryOperator × Expr). is_sound c.args.names.now link.1) c.args.links.now _ _ c.loop-operator-test.true c.loop-operator-item.is c.loop-operator.invariant.1)

pub joined-opened-requires : goal.joined-opened-requires
joined-opened-requires t c = (omega (arith, at_most the_size c.args.parts.now c.loop-x.x-index c.x-item.result c.loop-x-test.true, ap the_size c.x-item.is), this_passes (is_sound c.args.names.now) c.args.parts.now _ _ c.loop-x-test.true c.x-item.is c.loop-x.invariant.1)

pub opened-part_between-requires : goal.opened-part_between-requires
opened-part_between-requires t c = record { bounds = sound_part c.args.names.now c.args.x.now _ _ _ _ _ _ _ _ c.in-Part.is c.get-in-Part.ensures c.get-in-Part-2.ensures c.requires.sound }

pub opened-returns-in_ok-o-in-Part-clause-value : goal.opened-returns-in_ok-o-in-Part-clause-value
opened-returns-in_ok-o-in-Part-clause-value t c = c.in_ok-o-in-Part.ensures.value ∙ when_part c.args.names.now c.args.sites.now c.args.x.now _ _ _ _ _ _ _ _ c.in-Part.is c.get-in-Part.ensures c.get-in-Part-2.ensures

pub opened-joined-requires-in-Replicate : goal.opened-joined-requires-in-Replicate
opened-joined-requires-in-Replicate t c = (
  omega (arith, ap the_size c.in-Replicate.is, inner_deeper c.in-Replicate.brace c.in-Replicate.count_at c.in-Replicate.count c.in-Replicate.inner_brace c.in-Replicate.parts, ap (most the_size) c.as_slice-in-Replicate.ensures),
  (
    sound_inner c.args.names.now c.args.x.now _ _ _ _ _ _ c.in-Replicate.is c.as_slice-in-Replicate.ensures c.requires.sound,
    sound_inner_narrow c.args.names.now c.args.sites.now c.args.x.now _ _ _ _ _ _ c.in-Replicate.is c.as_slice-in-Replicate.ensures c.requires.sound,
  ),
)

pub opened-repeated-requires : goal.opened-repeated-requires
opened-repeated-requires t c = record {
  counted = sound_count c.args.names.now c.args.x.now _ _ _ _ _ _ c.in-Replicate.is c.get-in-Replicate.ensures c.requires.sound;
  room = sound_room c.args.names.now c.args.sites.now c.args.x.now _ _ _ _ _ _ _ _ c.in-Replicate.is c.get-in-Replicate.ensures c.as_slice-in-Replicate.ensures c.in_ok-word-in-Replicate.ensures.value c.requires.sound;
}

pub opened-returns-in_ok-o-in-Replicate-clause-value : goal.opened-returns-in_ok-o-in-Replicate-clause-value
opened-returns-in_ok-o-in-Replicate-clause-value t c =
    c.in_ok-o-in-Replicate.ensures.value ∙ when_replicate c.args.names.now c.args.sites.now c.args.x.now _ _ _ _ _ _ _ _ c.in-Replicate.is c.get-in-Replicate.ensures c.as_slice-in-Replicate.ensures c.in_ok-word-in-Replicate.ensures.value

-- ---- widths

pub opened-returns-in-Number-clause-form : goal.opened-returns-in-Number-clause-form
opened-returns-in-Number-clause-form t c = c.number.ensures.form c.args.names.now c.literal.ensures.fit

pub opened-returns-in-Name-clause-form : goal.opened-returns-in-Name-clause-form
opened-returns-in-Name-clause-form t c = c.name.ensures.form

pub opened-returns-in_ok-o-in-Select-clause-form : goal.opened-returns-in_ok-o-in-Select-clause-form
opened-returns-in_ok-o-in-Select-clause-form t c = c.in_ok-o-in-Select.ensures.form c.in_ok-index-in-Select.ensures.form

pub opened-returns-in_ok-o-in-Unary-clause-form : goal.opened-returns-in_ok-o-in-Unary-clause-form
opened-returns-in_ok-o-in-Unary-clause-form t c = c.in_ok-o-in-Unary.ensures.form c.args.names.now c.in_ok-x-in-Unary.ensures.form

pub opened-returns-in_ok-o-in-Chain-clause-form : goal.opened-returns-in_ok-o-in-Chain-clause-form
opened-returns-in_ok-o-in-Chain-clause-form t c = c.in_ok-o-in-Chain.ensures.form c.in_ok-first-in-Chain.ensures.form

pub opened-returns-in_ok-o-in-Conditional-clause-form : goal.opened-returns-in_ok-o-in-Conditional-clause-form
opened-returns-in_ok-o-in-Conditional-clause-form t c =
    c.in_ok-o-in-Conditional.ensures.form c.args.names.now c.in_ok-c-in-Conditional.ensures.form c.in_ok-x-in-Conditional.ensures.form c.in_ok-y-in-Conditional.ensures.form

pub opened-returns-in_ok-o-in-Concat-clause-form : goal.opened-returns-in_ok-o-in-Concat-clause-form
opened-returns-in_ok-o-in-Concat-clause-form t c =
    c.in_ok-o-in-Concat.ensures.form
    (sound_some c.args.names.now c.args.sites.now c.args.x.now _ _ _ _ c.in-Concat.is c.as_slice-in-Concat.ensures c.in_ok-o-in-Concat.ensures.value c.requires.sound)

pub opened-returns-in_ok-o-in-Cast-clause-form : goal.opened-returns-in_ok-o-in-Cast-clause-form
opened-returns-in_ok-o-in-Cast-clause-form t c = c.in_ok-o-in-Cast.ensures.form c.args.names.now c.in_ok-x-in-Cast.ensures.form

pub opened-returns-in_ok-o-in-Part-clause-form : goal.opened-returns-in_ok-o-in-Part-clause-form
opened-returns-in_ok-o-in-Part-clause-form t c = c.in_ok-o-in-Part.ensures.form

pub opened-returns-in_ok-o-in-Replicate-clause-form : goal.opened-returns-in_ok-o-in-Replicate-clause-form
opened-returns-in_ok-o-in-Replicate-clause-form t c =
    c.in_ok-o-in-Replicate.ensures.form
    (c.in_ok-word-in-Replicate.ensures.form
    (sound_inner_some c.args.names.now c.args.sites.now c.args.x.now _ _ _ _ _ _ _ c.in-Replicate.is c.as_slice-in-Replicate.ensures c.in_ok-word-in-Replicate.ensures.value c.requires.sound))

pub joined-returns-clause-form : goal.joined-returns-clause-form
joined-returns-clause-form t c some =
    let word =
    joined_word c.args.names.now c.leaf.result _ _ _ c.leaf.ensures.value
    (joined_done c.args.names.now c.args.sites.now c.args.parts.now _ _ c.loop-x.typed _ _ _ c.loop-x-test.false c.leaf.ensures.value c.side_by_side.ensures.value c.loop-x.invariant.0)
    c.requires.narrow some in
    c.leaf.ensures.form c.args.names.now word (concat_has c.args.names.now c.loop-x.typed _ _ c.side_by_side.ensures.form word c.loop-x.invariant.2)

-- ---- sites

pub opened-returns-in-Number-clause-sited : goal.opened-returns-in-Number-clause-sited
opened-returns-in-Number-clause-sited t c widths read = ap (λ (f : SitedIn). f c.args.names.now widths) c.number.ensures.sited

pub opened-returns-in-Name-clause-sited : goal.opened-returns-in-Name-clause-sited
opened-returns-in-Name-clause-sited t c widths read = ap (λ (f : SitedIn). f c.args.names.now widths) c.name.ensures.sited

pub opened-returns-in_ok-o-in-Part-clause-sited : goal.opened-returns-in_ok-o-in-Part-clause-sited
opened-returns-in_ok-o-in-Part-clause-sited t c widths read = ap (λ (f : SitedIn). f c.args.names.now widths) c.in_ok-o-in-Part.ensures.sited

pub opened-returns-in_ok-o-in-Select-clause-sited : goal.opened-returns-in_ok-o-in-Select-clause-sited
opened-returns-in_ok-o-in-Select-clause-sited t c widths read =
    let parts = read_select widths c.args.sites.now c.args.names.now c.args.x.now _ _ _ _ c.in-Select.is c.get.ensures read in
    c.in_ok-o-in-Select.ensures.sited widths parts.0 (c.in_ok-index-in-Select.ensures.sited widths parts.1)

pub opened-returns-in_ok-o-in-Unary-clause-sited : goal.opened-returns-in_ok-o-in-Unary-clause-sited
opened-returns-in_ok-o-in-Unary-clause-sited t c widths read =
    ap (λ (f : SitedIn). f c.args.names.now widths) c.in_ok-o-in-Unary.ensures.sited
    ∙ c.in_ok-x-in-Unary.ensures.sited widths (read_unary widths c.args.sites.now c.args.names.now c.args.x.now _ _ _ c.in-Unary.is c.get-in-Unary.ensures read)

pub opened-returns-in_ok-o-in-Cast-clause-sited : goal.opened-returns-in_ok-o-in-Cast-clause-sited
opened-returns-in_ok-o-in-Cast-clause-sited t c widths read =
    ap (λ (f : SitedIn). f c.args.names.now widths) c.in_ok-o-in-Cast.ensures.sited
    ∙ c.in_ok-x-in-Cast.ensures.sited widths (read_cast widths c.args.sites.now c.args.names.now c.args.x.now _ _ _ c.in-Cast.is c.get-in-Cast.ensures read)

pub opened-returns-in_ok-o-in-Chain-clause-sited : goal.opened-returns-in_ok-o-in-Chain-clause-sited
opened-returns-in_ok-o-in-Chain-clause-sited t c widths read =
    let parts = read_chain widths c.args.sites.now c.args.names.now c.args.x.now _ _ _ _ c.in-Chain.is c.get-in-Chain.ensures c.as_slice.ensures read in
    c.in_ok-o-in-Chain.ensures.sited widths parts.1 (c.in_ok-first-in-Chain.ensures.sited widths parts.0)

pub opened-returns-in_ok-o-in-Conditional-clause-sited : goal.opened-returns-in_ok-o-in-Conditional-clause-sited
opened-returns-in_ok-o-in-Conditional-clause-sited t c widths read =
    let parts = read_conditional widths c.args.sites.now c.args.names.now c.args.x.now _ _ _ _ _ _ c.in-Conditional.is c.get-in-Conditional.ensures c.get-in-Conditional-2.ensures c.get-in-Conditional-3.ensures read in
    ap (λ (f : SitedIn). f c.args.names.now widths) c.in_ok-o-in-Conditional.ensures.sited
    ∙ both
    (both (c.in_ok-c-in-Conditional.ensures.sited widths parts.0) (c.in_ok-x-in-Conditional.ensures.sited widths parts.1))
    (c.in_ok-y-in-Conditional.ensures.sited widths parts.2)

pub opened-returns-in_ok-o-in-Concat-clause-sited : goal.opened-returns-in_ok-o-in-Concat-clause-sited
opened-returns-in_ok-o-in-Concat-clause-sited t c widths read = c.in_ok-o-in-Concat.ensures.sited widths (read_concat widths c.args.sites.now c.args.names.now c.args.x.now _ _ _ c.in-Concat.is c.as_slice-in-Concat.ensures read)

pub opened-returns-in_ok-o-in-Replicate-clause-sited : goal.opened-returns-in_ok-o-in-Replicate-clause-sited
opened-returns-in_ok-o-in-Replicate-clause-sited t c widths read =
    ap (λ (f : SitedIn). f c.args.names.now widths) c.in_ok-o-in-Replicate.ensures.sited
    ∙ c.in_ok-word-in-Replicate.ensures.sited widths (read_replicate widths c.args.sites.now c.args.names.now c.args.x.now _ _ _ _ _ _ c.in-Replicate.is c.as_slice-in-Replicate.ensures read)

pub joined-returns-clause-sited : goal.joined-returns-clause-sited
joined-returns-clause-sited t c widths read = ap (λ (f : SitedIn). f c.args.names.now widths) (c.leaf.ensures.sited ∙ c.side_by_side.ensures.sited) ∙ c.loop-x.invariant.3 widths read
