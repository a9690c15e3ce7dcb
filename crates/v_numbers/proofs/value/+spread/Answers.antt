-- The bits of the mask one by one.
use Rattle.v_numbers.proofs.Counted.{closed_turn, open_turn}
use Rattle.v_numbers.proofs.value.+spread.Goals as goal

pub returns-then-mask-eq0-2-clause-value : goal.returns-then-mask-eq0-2-clause-value
returns-then-mask-eq0-2-clause-value t c = closed_turn _ _ _ _ c.ranges.mask.fits c.if-width-eq0.false c.if-mask-eq0-2.true c.spread.ensures.value c.spread.ensures.within

pub returns-else-mask-eq0-2-clause-value : goal.returns-else-mask-eq0-2-clause-value
returns-else-mask-eq0-2-clause-value t c = open_turn _ _ _ _ c.ranges.mask.fits c.if-width-eq0.false c.if-mask-eq0-2.false c.spread-else-mask-eq0-2.ensures.value c.spread-else-mask-eq0-2.ensures.within
