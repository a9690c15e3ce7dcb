use Rattle.std.proofs.Common.{◌≤◌, ◌-◌, ◌^◌, length, arith, refl}
use Rattle.n_sim.proofs.Words.{two_constants}
use Rattle.n_sim.proofs.front.put_lane_front.Goals as goal

pub returns-clause-values : goal.returns-clause-values
returns-clause-values c =
    let two : 2 ≤ length c.args.nets.now = omega arith in
    rw (c.put_all.ensures.values, c.put_all-next.ensures.values, two_constants 0 (2 ^ 64 - 1) c.args.nets.now two) refl
