use Rattle.n_cells.proofs.Valuation.{valuation_there}
use Rattle.n_cells.proofs.law.net_after_net.Goals as goal

pub returns : goal.returns
returns c = valuation_there
