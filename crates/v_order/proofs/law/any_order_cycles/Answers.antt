use Rattle.v_order.proofs.AnyOrder.{any_order}
use Rattle.v_order.proofs.law.any_order_cycles.Goals as goal

pub returns : goal.returns
returns c = any_order
