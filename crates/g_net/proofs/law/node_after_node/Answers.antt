use Rattle.g_net.proofs.Valuation.{sources_fit, valuation_there}
use Rattle.g_net.proofs.law.node_after_node.Goals as goal

pub returns : goal.returns
returns c = record { bits = sources_fit; valued = valuation_there }
