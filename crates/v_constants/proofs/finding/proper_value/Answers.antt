use Rattle.v_constants.proofs.Steps.{proper_is}
use Rattle.v_constants.proofs.finding.proper_value.Goals as goal

pub returns-in-Ok : goal.returns-in-Ok
returns-in-Ok c = proper_is c.args.names.now c.args.x.now _ _ c.in-Ok.ensures c.number_of.ensures
