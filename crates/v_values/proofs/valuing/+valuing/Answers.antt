use denote.Param.Weighed.{most, at_most}
use Rattle.std.proofs.Common.{◌≡◌, ◌<◌, ap, sym, subst, ◌∙◌, refl, arith, ℕ, true}
use Rattle.std.specs.Prelude.{◌^◌}
use Rattle.v_core.specs.declared.typed.Link.{Link}
use Rattle.v_core.specs.declared.typed.Typed.{Typed}
use Rattle.v_core.specs.Formed.{Formed, formed, formed_parts, is_width, part_forms}
use Rattle.v_core.proofs.typed.Typed.TheLaws.{the_size}
use Rattle.v_values.specs.Chains.{Begins}
use Rattle.v_core.specs.Sited.{is_sited}
use Rattle.v_values.proofs.Tests.{first_of, second_of, within}
use Rattle.v_values.proofs.Depths.{link_size, part_size, first_deeper, links_deeper, parts_deeper, then_deeper, otherwise_deeper}
use Rattle.v_values.proofs.TypedLaws.{chain_means, chain_form, sited_first, sited_links, concat_means, concat_form, sited_parts, then_has, otherwise_has, sited_then, sited_otherwise, kept_of, choice_word, free_below}
use Rattle.v_values.proofs.Chains.{next_is, one_of, before_kept, operand_kept, operands_meet, follows_next, value_next, value_last, follows_last}
use Rattle.v_values.proofs.Parts.{part_kept, part_below, part_narrow, left_next, left_last}
use Rattle.v_values.proofs.valuing.+valuing.Goals as goal

-- ---- selects

pub value-selected-requires-clause-free : goal.value-selected-requires-clause-free
value-selected-requires-clause-free t c =
    let below = free_below c.args.x.now _ _ _ _ _ _ c.args.names.now _ c.site-in-Select.result c.in-Select.is c.requires.sited c.site-in-Select.ensures.below in
    rw (c.look_up.ensures.kind, c.look_up.ensures.width) below

-- ---- chains

pub value-value-first-requires : goal.value-value-first-requires
value-value-first-requires t c =
    let form = chain_form c.args.x.now _ _ _ c.in-Chain.links c.args.names.now c.in-Chain.is c.get-in-Chain.ensures refl in (
      omega (arith, ap the_size c.in-Chain.is, first_deeper c.in-Chain.x c.in-Chain.links, ap the_size c.get-in-Chain.ensures),
      (
        before_kept _ c.in-Chain.links c.args.names.now (sym (ap (λ (f : Formed). f.kept) form) ∙ c.requires.kept),
        (sited_first c.args.x.now _ _ _ c.args.names.now _ c.in-Chain.is c.get-in-Chain.ensures c.requires.sited, c.requires.fits),
      ),
    )

pub value-chained-requires : goal.value-chained-requires
value-chained-requires t c =
    let form = chain_form c.args.x.now _ c.get-in-Chain.result.now _ c.as_slice.result.now c.args.names.now c.in-Chain.is c.get-in-Chain.ensures c.as_slice.ensures in (
      omega (arith, ap the_size c.in-Chain.is, links_deeper c.in-Chain.x c.in-Chain.links, ap (most link_size) c.as_slice.ensures),
      (
        (
          formed c.get-in-Chain.result.now c.args.names.now,
          record { word = c.value-first.ensures.word; below = c.value-first.ensures.within; kept = sym (ap (λ (f : Formed). f.kept) form) ∙ c.requires.kept },
        ),
        (sited_links c.args.x.now _ _ _ c.args.names.now _ c.in-Chain.is c.as_slice.ensures c.requires.sited, c.requires.fits),
      ),
    )

pub value-returns-in-Chain : goal.value-returns-in-Chain
value-returns-in-Chain t c =
    let form = chain_form c.args.x.now _ c.get-in-Chain.result.now _ c.as_slice.result.now c.args.names.now c.in-Chain.is c.get-in-Chain.ensures c.as_slice.ensures in
    let begins : Begins (formed c.get-in-Chain.result.now c.args.names.now) c.value-first.result c.as_slice.result.now c.args.names.now =
    record { word = c.value-first.ensures.word; below = c.value-first.ensures.within; kept = sym (ap (λ (f : Formed). f.kept) form) ∙ c.requires.kept } in
    record {
      value = chain_means c.args.x.now _ _ _ _ c.args.names.now _ _ _ c.in-Chain.is c.get-in-Chain.ensures c.as_slice.ensures c.value-first.ensures.value c.chained.ensures.value;
      within = subst (λ (f : Formed). c.chained.result < 2 ^ f.width) (sym form) (c.chained.ensures.within _ begins);
      word = subst (λ (f : Formed). is_width f.width ≡ true) (sym form) (c.chained.ensures.word _ begins);
    }

pub chained-value-right-requires : goal.chained-value-right-requires
chained-value-right-requires t c =
    let next = next_is c.args.links.now _ _ c.loop-link-test.true c.loop-link-item.is in (
      omega (arith, at_most link_size c.args.links.now c.loop-link.link-index c.loop-link-item.result c.loop-link-test.true, ap link_size c.loop-link-item.is),
      (
        operand_kept _ _ _ _ _ c.args.names.now _ next (c.loop-link.invariant.follows c.requires.kept.0 c.requires.kept.1),
        (
          one_of (λ (l : Link × Typed). is_sited l.1 c.args.names.now c.args.now.now.shape.sites) c.args.links.now _ _ c.loop-link-test.true c.loop-link-item.is c.requires.sited,
          c.requires.fits,
        ),
      ),
    )

pub chained-linked-left-requires : goal.chained-linked-left-requires
chained-linked-left-requires t c =
    let next = next_is c.args.links.now _ _ c.loop-link-test.true c.loop-link-item.is in
    record { kept = operands_meet _ _ _ _ _ c.args.names.now _ _ next (c.loop-link.invariant.follows c.requires.kept.0 c.requires.kept.1) c.value-right.ensures.within }

pub chained-loop-link-preserved : goal.chained-loop-link-preserved
chained-loop-link-preserved t c =
    let next = next_is c.args.links.now _ _ c.loop-link-test.true c.loop-link-item.is in
    record {
      value = value_next _ _ _ c.args.names.now _ _ _ _ _ next c.value-right.ensures.value c.linked-left.ensures.value c.loop-link.invariant.value;
      follows = λ form begins. follows_next _ _ _ _ _ c.args.names.now _ _ next c.linked-left.ensures.below (c.loop-link.invariant.follows form begins);
    }

pub chained-returns : goal.chained-returns
chained-returns t c = record {
  value = value_last c.args.links.now _ c.args.names.now _ _ _ c.loop-link-test.false c.loop-link.invariant.value;
  within = λ form begins. (follows_last form c.args.links.now _ c.args.names.now _ c.loop-link-test.false (c.loop-link.invariant.follows form begins)).0;
  word = λ form begins. (follows_last form c.args.links.now _ c.args.names.now _ c.loop-link-test.false (c.loop-link.invariant.follows form begins)).1;
}

-- ---- choices

pub value-value-requires-then-value-eq0 : goal.value-value-requires-then-value-eq0
value-value-requires-then-value-eq0 t c = (
  omega (arith, ap the_size c.in-Choice.is, otherwise_deeper c.in-Choice.width c.in-Choice.condition c.in-Choice.then c.in-Choice.otherwise, ap the_size c.get-then-value-eq0.ensures),
  (
    kept_of _ _ (otherwise_has c.args.x.now _ _ _ _ _ c.args.names.now c.in-Choice.is c.get-then-value-eq0.ensures c.requires.kept),
    (sited_otherwise c.args.x.now _ _ _ _ _ c.args.names.now _ c.in-Choice.is c.get-then-value-eq0.ensures c.requires.sited, c.requires.fits),
  ),
)

pub value-value-requires-else-value-eq0 : goal.value-value-requires-else-value-eq0
value-value-requires-else-value-eq0 t c = (
  omega (arith, ap the_size c.in-Choice.is, then_deeper c.in-Choice.width c.in-Choice.condition c.in-Choice.then c.in-Choice.otherwise, ap the_size c.get-else-value-eq0.ensures),
  (
    kept_of _ _ (then_has c.args.x.now _ _ _ _ _ c.args.names.now c.in-Choice.is c.get-else-value-eq0.ensures c.requires.kept),
    (sited_then c.args.x.now _ _ _ _ _ c.args.names.now _ c.in-Choice.is c.get-else-value-eq0.ensures c.requires.sited, c.requires.fits),
  ),
)

pub value-returns-then-value-eq0-clause-within : goal.value-returns-then-value-eq0-clause-within
value-returns-then-value-eq0-clause-within t c =
    (choice_word c.args.x.now _ _ _ c.get-then-value-eq0.result.now _ _ c.args.names.now c.in-Choice.is (otherwise_has c.args.x.now _ _ _ _ _ c.args.names.now c.in-Choice.is c.get-then-value-eq0.ensures c.requires.kept)
    c.value-then-value-eq0.ensures.word c.value-then-value-eq0.ensures.within).0

pub value-returns-then-value-eq0-clause-word : goal.value-returns-then-value-eq0-clause-word
value-returns-then-value-eq0-clause-word t c =
    (choice_word c.args.x.now _ _ _ c.get-then-value-eq0.result.now _ _ c.args.names.now c.in-Choice.is (otherwise_has c.args.x.now _ _ _ _ _ c.args.names.now c.in-Choice.is c.get-then-value-eq0.ensures c.requires.kept)
    c.value-then-value-eq0.ensures.word c.value-then-value-eq0.ensures.within).1

pub value-returns-else-value-eq0-clause-within : goal.value-returns-else-value-eq0-clause-within
value-returns-else-value-eq0-clause-within t c =
    (choice_word c.args.x.now _ _ _ c.get-else-value-eq0.result.now _ _ c.args.names.now c.in-Choice.is (then_has c.args.x.now _ _ _ _ _ c.args.names.now c.in-Choice.is c.get-else-value-eq0.ensures c.requires.kept)
    c.value-else-value-eq0.ensures.word c.value-else-value-eq0.ensures.within).0

pub value-returns-else-value-eq0-clause-word : goal.value-returns-else-value-eq0-clause-word
value-returns-else-value-eq0-clause-word t c =
    (choice_word c.args.x.now _ _ _ c.get-else-value-eq0.result.now _ _ c.args.names.now c.in-Choice.is (then_has c.args.x.now _ _ _ _ _ c.args.names.now c.in-Choice.is c.get-else-value-eq0.ensures c.requires.kept)
    c.value-else-value-eq0.ensures.word c.value-else-value-eq0.ensures.within).1

-- ---- operands side by side

pub value-joined-requires : goal.value-joined-requires
value-joined-requires t c =
    let form = concat_form c.args.x.now _ c.as_slice-in-Concat.result.now c.args.names.now c.in-Concat.is c.as_slice-in-Concat.ensures in
    let kept = sym (ap (λ (f : Formed). f.kept) form) ∙ c.requires.kept in (
      omega (arith, ap the_size c.in-Concat.is, parts_deeper c.in-Concat.parts, ap (most part_size) c.as_slice-in-Concat.ensures),
      (
        second_of (is_width (formed_parts (part_forms c.as_slice-in-Concat.result.now) c.args.names.now).width) (formed_parts (part_forms c.as_slice-in-Concat.result.now) c.args.names.now).kept kept,
        (within (formed_parts (part_forms c.as_slice-in-Concat.result.now) c.args.names.now).width (first_of (is_width (formed_parts (part_forms c.as_slice-in-Concat.result.now) c.args.names.now).width) (formed_parts (part_forms c.as_slice-in-Concat.result.now) c.args.names.now).kept kept), (sited_parts c.args.x.now _ _ c.args.names.now _ c.in-Concat.is c.as_slice-in-Concat.ensures c.requires.sited, c.requires.fits)),
      ),
    )

pub value-returns-in-Concat : goal.value-returns-in-Concat
value-returns-in-Concat t c =
    let form = concat_form c.args.x.now _ c.as_slice-in-Concat.result.now c.args.names.now c.in-Concat.is c.as_slice-in-Concat.ensures in
    let kept = sym (ap (λ (f : Formed). f.kept) form) ∙ c.requires.kept in
    record {
      value = concat_means c.args.x.now _ _ c.args.names.now _ _ c.in-Concat.is c.as_slice-in-Concat.ensures c.joined.ensures.value;
      within = subst (λ (f : Formed). c.joined.result < 2 ^ f.width) (sym form) c.joined.ensures.below;
      word = subst (λ (f : Formed). is_width f.width ≡ true) (sym form) (first_of (is_width (formed_parts (part_forms c.as_slice-in-Concat.result.now) c.args.names.now).width) (formed_parts (part_forms c.as_slice-in-Concat.result.now) c.args.names.now).kept kept);
    }

pub joined-value-one-requires : goal.joined-value-one-requires
joined-value-one-requires t c =
    let next = next_is c.args.parts.now _ _ c.loop-bits-test.true c.loop-bits-item.is in (
      omega (arith, at_most part_size c.args.parts.now c.loop-bits.bits-index c.loop-bits-item.result c.loop-bits-test.true, ap part_size c.loop-bits-item.is),
      (
        part_kept _ c.args.parts.now _ _ c.args.names.now _ _ _ next c.loop-bits.invariant,
        (
          one_of (λ (p : ℕ × Typed). is_sited p.1 c.args.names.now c.args.now.now.shape.sites) c.args.parts.now _ _ c.loop-bits-test.true c.loop-bits-item.is c.requires.sited,
          c.requires.fits,
        ),
      ),
    )

pub joined-beside-all-requires : goal.joined-beside-all-requires
joined-beside-all-requires t c =
    let next = next_is c.args.parts.now _ _ c.loop-bits-test.true c.loop-bits-item.is in
    record {
      within = part_narrow _ c.args.parts.now _ _ c.args.names.now _ _ _ next c.loop-bits.invariant c.requires.narrow;
      left_fits = c.loop-bits.invariant.below;
      right_fits = part_below _ c.args.parts.now _ _ c.args.names.now _ _ _ _ next c.loop-bits.invariant c.value-one.ensures.within;
    }

pub joined-loop-bits-preserved : goal.joined-loop-bits-preserved
joined-loop-bits-preserved t c =
    let next = next_is c.args.parts.now _ _ c.loop-bits-test.true c.loop-bits-item.is in
    left_next _ c.args.parts.now _ _ c.args.names.now _ _ _ _ _ _ next c.value-one.ensures.value c.beside-all.ensures.value c.beside-all.ensures.below refl c.loop-bits.invariant

pub joined-returns : goal.joined-returns
joined-returns t c =
    let last = left_last c.args.parts.now _ c.args.names.now _ _ _ c.loop-bits-test.false c.loop-bits.invariant in
    record { value = last.0; below = last.1 }
