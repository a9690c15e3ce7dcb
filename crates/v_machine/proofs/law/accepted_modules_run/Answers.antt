use Rattle.v_machine.proofs.Accepted.{can_run}
use Rattle.v_machine.proofs.law.accepted_modules_run.Goals as goal

pub returns : goal.returns
returns c = can_run c.processes_are_steady.ensures.clocked c.processes_are_apart.ensures c.names_are_numbered.ensures
