use Rattle.std.proofs.Common.{◌∙◌, Err, ap}
use Rattle.std.proofs.lemmas.Result.{err_from_is_err_and}
use Rattle.lz_lines.proofs.Forms.{after_obtains, obtains_err}
use Rattle.t_trace.proofs.Cycles.{head_broken, head_read}
use Rattle.t_trace.proofs.reading.read_line.Goals as goal

pub returns-in_err-head : goal.returns-in_err-head
returns-in_err-head c =
    let p = err_from_is_err_and c.from_residual.result c.from_residual.ensures.1 in
    obtains_err _ _ _ _ _ c.from_residual.result _ (p.1 ∙ ap Err p.2) (head_broken c.args.widths.now c.args.head c.requires.apart c.in_err-head.ensures.reads)

pub returns : goal.returns
returns c = after_obtains _ _ c.read_tail.result (head_read c.args.widths.now c.args.head c.in_ok-head.head c.requires.apart c.in_ok-head.ensures.reads) c.read_tail.ensures
