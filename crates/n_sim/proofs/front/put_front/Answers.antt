use Rattle.std.proofs.Common.{◌≤◌, length, arith, refl, true, false}
use Rattle.n_sim.proofs.Words.{two_constants}
use Rattle.n_sim.proofs.front.put_front.Goals as goal

pub returns-clause-values : goal.returns-clause-values
returns-clause-values c =
    let two : 2 ≤ length c.args.nets.now = omega arith in
    rw (c.put_all.ensures.values, c.put_words-next.ensures.values, two_constants false true c.args.nets.now two) refl
