use Rattle.v_order.proofs.Settled.{settled, alone}
use Rattle.v_order.proofs.law.nets_settle_in_one_way.Goals as goal

pub returns : goal.returns
returns c = record { settled = settled; alone = alone }
