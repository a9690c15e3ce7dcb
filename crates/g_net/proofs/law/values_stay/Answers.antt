use Rattle.g_net.proofs.Valuation.{grown_longer, grown_keeps, grown_stands, grown_itself, grown_further}
use Rattle.g_net.proofs.law.values_stay.Goals as goal

pub returns : goal.returns
returns c = record { longer = grown_longer; keeps = grown_keeps; stands = grown_stands; itself = grown_itself; further = grown_further }
