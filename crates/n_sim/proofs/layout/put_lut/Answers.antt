use Rattle.std.proofs.Common.{◌+◌, length, arith}
use Rattle.n_sim.proofs.Places.{moved_below}
use Rattle.n_sim.proofs.layout.put_lut.Goals as goal

pub put_table-requires-clause-there : goal.put_table-requires-clause-there
put_table-requires-clause-there c =
    rw (c.as_slice.ensures, c.in_ok-leaves.ensures) (moved_below (c.args.first + length c.args.steps.now) c.args.places.now c.args.leaves.now (omega (arith, c.requires.some)) c.requires.places)
