use Rattle.g_net.proofs.Machine.{does_there, does_alone, length_next}
use Rattle.g_net.proofs.law.machine_step.Goals as goal

pub returns-clause-does : goal.returns-clause-does
returns-clause-does c = does_there

pub returns-clause-alone : goal.returns-clause-alone
returns-clause-alone c = does_alone

pub returns-clause-bits : goal.returns-clause-bits
returns-clause-bits c = length_next
