use Rattle.v_order.proofs.Counting.{complete, incomplete, finished_view}
use Rattle.v_order.proofs.law.schedules_are_counted.Goals as goal

pub returns : goal.returns
returns c = record { complete = complete; incomplete = incomplete; alone = finished_view }
