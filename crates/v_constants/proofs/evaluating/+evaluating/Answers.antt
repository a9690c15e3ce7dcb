use denote.Param.Weighed.{most}
use Rattle.std.proofs.Common.{arith, ap, ◌∙◌}
use Rattle.v_constants.specs.Bodies.{held}
use Rattle.v_constants.proofs.body.Body.TheLaws.{the_size}
use Rattle.v_constants.proofs.BodyLaws.{of_body, body_fits, of_number, is_shift, held_chain, held_shifts, behind_fits, behind_value}
use Rattle.v_constants.proofs.Depths.{link_size, links_deeper}
use Rattle.v_constants.proofs.evaluating.+evaluating.Goals as goal

pub evaluate-chained-requires : goal.evaluate-chained-requires
evaluate-chained-requires t c = (
  omega (arith, ap the_size c.in-Chain.is, links_deeper c.in-Chain.x c.in-Chain.links, ap (most link_size) c.as_slice.ensures),
  (
    c.requires.has_bit,
    (
      c.requires.within,
      (
        c.evaluate-x-in-Chain.ensures.below,
        behind_fits of_body body_fits c.args.body.now c.in-Chain.x c.in-Chain.links _ c.args.width (ap held c.in-Chain.is ∙ held_chain c.in-Chain.x c.in-Chain.links) c.as_slice.ensures c.requires.fits,
      ),
    ),
  ),
)

pub evaluate-returns-in-Chain-clause-value : goal.evaluate-returns-in-Chain-clause-value
evaluate-returns-in-Chain-clause-value t c =
    behind_value of_body body_fits c.args.body.now _ _ _ _ c.args.width c.args.signed _ _ (ap held c.in-Chain.is ∙ held_chain c.in-Chain.x c.in-Chain.links) c.get-in-Chain.ensures
    c.as_slice.ensures c.evaluate-x-in-Chain.ensures.value c.chained.ensures.value

pub evaluate-returns-in-Shifts-clause-value : goal.evaluate-returns-in-Shifts-clause-value
evaluate-returns-in-Shifts-clause-value t c =
    behind_value of_number is_shift c.args.body.now _ _ _ _ c.args.width c.args.signed _ _ (ap held c.in-Shifts.is ∙ held_shifts c.in-Shifts.x c.in-Shifts.links) c.get-in-Shifts.ensures
    c.as_slice-in-Shifts.ensures c.evaluate-x-in-Shifts.ensures.value c.shifted.ensures.value
