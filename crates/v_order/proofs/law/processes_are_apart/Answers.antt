use Rattle.v_order.proofs.ModuleApart.{processes_apart}
use Rattle.v_order.proofs.law.processes_are_apart.Goals as goal

pub returns : goal.returns
returns c = processes_apart
