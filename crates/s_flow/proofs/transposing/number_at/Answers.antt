use Rattle.std.proofs.Common.{◌≡◌, ◌<◌, ◌≤◌, ◌-◌, ◌+◌, ◌*◌, length, suc, ap, ◌∙◌, arith}
use Rattle.s_flow.proofs.Streams.{number_fits, number_on, fits_on}
use Rattle.s_flow.proofs.transposing.number_at.Goals as goal

pub overflow_mul-number : goal.overflow_mul-number
overflow_mul-number c =
    let short : length c.args.lanes.now - c.loop-i.i < 128 = omega arith in
    omega (arith, number_fits c.loop-i.number (length c.args.lanes.now - c.loop-i.i) c.loop-i.invariant.fits short)

pub overflow_add-number : goal.overflow_add-number
overflow_add-number c =
    let short : length c.args.lanes.now - c.loop-i.i < 128 = omega arith in
    let one : c.from.result < 2 = omega (arith, c.from.ensures) in
    omega (arith, number_fits c.loop-i.number (length c.args.lanes.now - c.loop-i.i) c.loop-i.invariant.fits short)

pub loop-i-preserved : goal.loop-i-preserved
loop-i-preserved c =
    let one : c.from.result < 2 = omega (arith, c.from.ensures) in
    record {
      within = omega arith;
      number = ap (λ b. b + 2 * c.loop-i.number) c.from.ensures ∙ number_on c.args.index c.loop-i.i c.args.lanes.now c.loop-i.number c.loop-i-test.true c.loop-i.invariant.within c.loop-i.invariant.number;
      fits = fits_on (length c.args.lanes.now - c.loop-i.i) _ c.from.result c.loop-i.number (omega arith) one c.loop-i.invariant.fits;
    }
