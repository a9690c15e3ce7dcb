use Rattle.lz_base.proofs.MetNames.{among_decides}
use Rattle.lz_base.proofs.met.is_among_decides.Goals as goal

pub returns : goal.returns
returns c = among_decides
