use Rattle.std.proofs.Common.{◌<◌, ◌-◌, ◌+◌, ◌*◌, length, ap, ◌∙◌, arith}
use Rattle.n_sim.proofs.Words.{number_fits, number_on, fits_on}
use Rattle.n_sim.proofs.word.number_at.Goals as goal

pub overflow_mul-number : goal.overflow_mul-number
overflow_mul-number c =
    let short : length c.args.nets.now - c.loop-i.i < 128 = omega arith in
    omega (arith, number_fits c.loop-i.number (length c.args.nets.now - c.loop-i.i) c.loop-i.invariant.2 short)

pub overflow_add-number : goal.overflow_add-number
overflow_add-number c =
    let short : length c.args.nets.now - c.loop-i.i < 128 = omega arith in
    omega (arith, c.bit_of.ensures.small, number_fits c.loop-i.number (length c.args.nets.now - c.loop-i.i) c.loop-i.invariant.2 short)

pub loop-i-preserved : goal.loop-i-preserved
loop-i-preserved c = (
  omega arith,
  ap (λ b. b + 2 * c.loop-i.number) c.bit_of.ensures.value ∙ number_on c.args.values.now c.args.nets.now c.loop-i.i c.loop-i.number c.loop-i-test.true c.loop-i.invariant.0 c.loop-i.invariant.1,
  fits_on _ _ _ _ c.bit_of.ensures.small c.loop-i.invariant.2 (omega arith),
)
