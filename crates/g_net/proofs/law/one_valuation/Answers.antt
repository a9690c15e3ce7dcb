use Rattle.g_net.proofs.Valuation.{valuation_same}
use Rattle.g_net.proofs.law.one_valuation.Goals as goal

pub returns : goal.returns
returns c = valuation_same
