use Rattle.n_cells.proofs.Machine.{goes_on}
use Rattle.n_cells.proofs.law.machine_lasts.Goals as goal

pub returns-clause-lasts : goal.returns-clause-lasts
returns-clause-lasts c = goes_on
