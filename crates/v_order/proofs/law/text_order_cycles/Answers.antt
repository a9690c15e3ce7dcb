use Rattle.v_order.proofs.TextOrder.{text_order}
use Rattle.v_order.proofs.law.text_order_cycles.Goals as goal

pub returns : goal.returns
returns c = text_order
