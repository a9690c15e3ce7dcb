use Rattle.g_net.proofs.Valuation.{even_literal, odd_literal}
use Rattle.g_net.proofs.law.two_literals.Goals as goal

pub returns : goal.returns
returns c = record { even = even_literal; odd = odd_literal }
