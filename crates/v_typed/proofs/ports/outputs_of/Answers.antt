use Rattle.v_typed.proofs.Outputs.{next_group}
use Rattle.v_typed.proofs.ports.outputs_of.Goals as goal

pub loop-group-preserved : goal.loop-group-preserved
loop-group-preserved c = next_group _ _ _ _ _ _ _ c.loop-group-test.true c.group-item.is c.in_ok-add_group.ensures c.loop-group.invariant
