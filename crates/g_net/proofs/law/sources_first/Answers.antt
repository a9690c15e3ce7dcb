use Rattle.g_net.proofs.Valuation.{constant_first, source_there, length_values}
use Rattle.g_net.proofs.law.sources_first.Goals as goal

pub returns : goal.returns
returns c = record { constant = constant_first; source = source_there; count = length_values }
