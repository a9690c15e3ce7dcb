use Rattle.lz_lines.proofs.Standing.{hand_broken}
use Rattle.n_text.proofs.lines.read_enable.Goals as goal

pub returns-in_err-read_number-in-Two : goal.returns-in_err-read_number-in-Two
returns-in_err-read_number-in-Two c = rw c.in-Two.is (hand_broken _ _ _ _ _ c.from_residual.result _ c.from_residual.ensures.1 c.in_err-read_number-in-Two.ensures.reads)
