use Rattle.std.proofs.Common.{◌∙◌, Err, ap}
use Rattle.std.proofs.lemmas.Result.{err_from_is_err_and}
use Rattle.lz_lines.proofs.Forms.{ended_breaks, obtains_err}
use Rattle.lz_lines.proofs.ends.end_line.Goals as goal

pub returns-in_err-rest-clause-reads : goal.returns-in_err-rest-clause-reads
returns-in_err-rest-clause-reads g c =
    let p = err_from_is_err_and c.from_residual.result c.from_residual.ensures.1 in
    obtains_err _ _ _ _ _ c.from_residual.result _ (p.1 ∙ ap Err p.2) (ended_breaks c.args.value c.in_err-rest.ensures.reads)
