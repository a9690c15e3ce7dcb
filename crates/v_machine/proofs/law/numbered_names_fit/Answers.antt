use Rattle.v_machine.proofs.NumberedWords.{numbered_fit}
use Rattle.v_machine.proofs.law.numbered_names_fit.Goals as goal

pub returns : goal.returns
returns c = numbered_fit
