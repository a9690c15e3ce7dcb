use Rattle.v_order.proofs.ModuleSteady.{no_combinational, processes_steady}
use Rattle.v_order.proofs.law.processes_are_steady.Goals as goal

pub returns : goal.returns
returns c = record { clocked = no_combinational; steady = processes_steady }
