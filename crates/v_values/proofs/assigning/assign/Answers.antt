use Rattle.v_values.proofs.Waiting.{back_again}
use Rattle.v_values.proofs.assigning.assign.Goals as goal

pub returns-clause-same : goal.returns-clause-same
returns-clause-same c =
    back_again c.args.queue.now _ _ _ _ c.len-first.ensures c.defer.ensures.writes c.defer.ensures.room c.apply_from.ensures.writes c.apply_from.ensures.room
