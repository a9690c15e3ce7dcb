use Rattle.n_sim.proofs.Steps.{xor_holds}
use Rattle.n_sim.proofs.making.put_xor.Goals as goal

pub returns-clause-holds : goal.returns-clause-holds
returns-clause-holds c = xor_holds c.args.first c.put.new.steps c.args.a c.args.b c.in_ok-place.place c.requires.some c.in_ok-place.ensures.holds
