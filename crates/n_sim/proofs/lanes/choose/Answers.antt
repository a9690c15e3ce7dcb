use Rattle.n_sim.proofs.Streams.{lane_choose}
use Rattle.n_sim.proofs.lanes.choose.Goals as goal

pub returns : goal.returns
returns c = λ j. lane_choose j c.args.by c.args.low c.args.high
