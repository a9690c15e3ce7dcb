use Rattle.v_rules.proofs.Shared.{elsewhere_ends}
use Rattle.v_rules.proofs.variables.first_read_elsewhere.Goals as goal

pub returns : goal.returns
returns c = elsewhere_ends c.first_elsewhere.result c.args.uses.now _ _ _ c.as_slice-processes.ensures (c.in_ok-meet_blocking.ensures c.no_names-met.ensures c.no_names-shared.ensures) c.first_elsewhere.ensures
