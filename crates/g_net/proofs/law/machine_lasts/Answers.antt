use Rattle.g_net.proofs.Machine.{goes_on}
use Rattle.g_net.proofs.law.machine_lasts.Goals as goal

pub returns-clause-lasts : goal.returns-clause-lasts
returns-clause-lasts c = goes_on
