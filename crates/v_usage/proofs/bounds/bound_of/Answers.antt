use Rattle.v_usage.proofs.Arms.{bound_is}
use Rattle.v_usage.proofs.bounds.bound_of.Goals as goal

pub returns-in-Some : goal.returns-in-Some
returns-in-Some c =
    bound_is c.args.names.now c.args.x.now _ ((c.in_ok-found.ensures.some _ c.in-Some.is).proper) (c.number_of.ensures c.args.names.now c.args.x.now (c.in_ok-found.ensures.some _ c.in-Some.is))
