use Rattle.n_cells.proofs.Machine.{runs_as_old}
use Rattle.n_cells.proofs.law.old_run.Goals as goal

pub returns : goal.returns
returns c = runs_as_old
