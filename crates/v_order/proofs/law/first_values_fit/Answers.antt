use Rattle.v_order.proofs.Numbering.{firsts_fit}
use Rattle.v_order.proofs.law.first_values_fit.Goals as goal

pub returns : goal.returns
returns c = firsts_fit
