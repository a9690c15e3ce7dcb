use Rattle.std.proofs.Common.{◌∙◌, Err, ap}
use Rattle.std.proofs.lemmas.Result.{err_from_is_err_and}
use Rattle.t_trace.proofs.Cycles.{tail_obtains, words_failed, words_obtain}
use Rattle.t_trace.proofs.reading.read_tail.Goals as goal

pub returns-in_err-words-in_default : goal.returns-in_err-words-in_default
returns-in_err-words-in_default c =
    let p = err_from_is_err_and c.from_residual.result c.from_residual.ensures.1 in
    tail_obtains c.args.widths.now c.args.head c.args.bytes.now _ _ c.from_residual.result c.in_default.not-End
    (words_failed c.args.widths.now c.args.bytes.now _ _ c.from_residual.result _ (p.1 ∙ ap Err p.2) c.in_err-words-in_default.ensures)

pub returns-in_ok-words-in_default : goal.returns-in_ok-words-in_default
returns-in_ok-words-in_default c =
    tail_obtains c.args.widths.now c.args.head c.args.bytes.now _ _ c.end_line-in_default.result c.in_default.not-End
    (words_obtain c.args.widths.now c.in_ok-words-in_default.words c.args.bytes.now c.in_ok-words-in_default.rest.now _ _ c.end_line-in_default.result c.in_ok-words-in_default.ensures c.end_line-in_default.ensures.reads)
