use Rattle.v_order.proofs.Numbering.{names_numbered}
use Rattle.v_order.proofs.law.names_are_numbered.Goals as goal

pub returns : goal.returns
returns c = names_numbered
