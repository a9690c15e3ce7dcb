use Rattle.lz_lines.proofs.Standing.{hand_broken}
use Rattle.t_choices.proofs.KeyedLines.{last_broken}
use Rattle.t_choices.proofs.lines.read_last.Goals as goal

pub returns-in_err-rest : goal.returns-in_err-rest
returns-in_err-rest g c = hand_broken _ _ _ _ _ c.from_residual.result _ c.from_residual.ensures.1 (last_broken c.args.value c.in_err-rest.ensures.reads)
