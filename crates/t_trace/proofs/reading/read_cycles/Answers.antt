use Rattle.std.proofs.Common.{◌≡◌, ◌∙◌, [], Err, true, false, ap, sym, subst}
use Rattle.std.proofs.lemmas.Result.{err_from_is_err_and}
use Rattle.lz_lines.specs.Forms.{Anything, Breaks, Nothing}
use Rattle.lz_lines.proofs.Forms.{obtains_err, obtains_failed}
use Rattle.t_trace.specs.Lines.{IsCycles, IsLine, head_word}
use Rattle.t_trace.proofs.Cycles.{first_read, first_broken, cycle_read, cycle_broken, last_read, last_broken, line_shorter}
use Rattle.t_trace.proofs.reading.read_cycles.Goals as goal

pub returns-in_err-left : goal.returns-in_err-left
returns-in_err-left c =
    let p = err_from_is_err_and c.from_residual.result c.from_residual.ensures.1 in
    obtains_err _ _ _ _ _ c.from_residual.result _ (p.1 ∙ ap Err p.2) (first_broken c.args.first.now (head_word c.args.head) c.args.widths.now c.in_err-left.ensures.reads)

pub lines-init : goal.lines-init
lines-init c = rw c.new-cycles.ensures (first_read c.args.first.now (head_word c.args.head) c.args.widths.now c.in_ok-left.ensures.reads)

pub returns-in_err-line : goal.returns-in_err-line
returns-in_err-line c =
    let p = err_from_is_err_and c.from_residual-in_err-line.result c.from_residual-in_err-line.ensures.1 in
    obtains_failed _ _ _ _ _ (IsLine c.args.widths.now (head_word c.args.head)) Anything c.lines.left.now c.from_residual-in_err-line.result _ (p.1 ∙ ap Err p.2)
    (λ left b. cycle_broken c.args.first.now (head_word c.args.head) c.args.widths.now c.lines.cycles c.lines.invariant b) c.in_err-line.ensures

pub returns-in_err-read_end : goal.returns-in_err-read_end
returns-in_err-read_end c =
    let p = err_from_is_err_and c.from_residual-in_err-read_end.result c.from_residual-in_err-read_end.ensures.1 in
    let some : c.in_ok-line.rest.now ≡ [] → ⊥ = λ none. let no : false ≡ true = c.in_err-read_end.ensures.only none in cc (no) in
    obtains_err _ _ _ _ _ c.from_residual-in_err-read_end.result _ (p.1 ∙ ap Err p.2)
    (subst (λ n. Breaks (IsCycles c.args.first.now (head_word c.args.head) c.args.widths.now) Nothing c.args.bytes.now n) (sym c.in_err-read_end.ensures.left)
    (last_broken c.args.first.now (head_word c.args.head) c.args.widths.now c.lines.cycles c.in_ok-line.line c.in_default.is some c.lines.invariant c.in_ok-line.ensures))

pub returns-in_default : goal.returns-in_default
returns-in_default c = last_read c.args.first.now (head_word c.args.head) c.args.widths.now c.lines.cycles c.in_ok-line.line c.in_default.is c.in_ok-read_end.ensures.found c.lines.invariant c.in_ok-line.ensures

pub lines-preserved : goal.lines-preserved
lines-preserved c = rw c.in_ok-push.ensures.ok (cycle_read c.args.first.now (head_word c.args.head) c.args.widths.now c.lines.cycles c.in_ok-line.line c.in-Some.words c.in-Some.is c.lines.invariant c.in_ok-line.ensures)

pub lines-smaller : goal.lines-smaller
lines-smaller c = line_shorter c.args.widths.now (head_word c.args.head) c.in_ok-line.line c.in_ok-line.ensures
