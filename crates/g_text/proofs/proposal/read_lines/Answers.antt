use Rattle.std.proofs.Common.{◌≡◌, [], true, false, sym, subst}
use Rattle.lz_lines.specs.Fields.{IsWord}
use Rattle.lz_lines.specs.Forms.{Anything, Breaks, Nothing}
use Rattle.lz_lines.proofs.Forms.{after_breaks, after_then, then_broken}
use Rattle.lz_lines.proofs.Standing.{hand_broken, hand_on}
use Rattle.g_text.specs.Luts.{LutLines}
use Rattle.g_text.specs.Proposals.{IsProposal, first_line}
use Rattle.g_text.proofs.Luts.{last_broken, last_read, line_shorter, lines_some, lut_broken, lut_read, text_after}
use Rattle.g_text.proofs.proposal.read_lines.Goals as goal

pub returns-in_err-left : goal.returns-in_err-left
returns-in_err-left c =
    hand_broken _ _ _ _ _ c.from_residual.result _ c.from_residual.ensures.1
    (after_breaks (text_after c.args.bytes.now) (then_broken (IsWord first_line) Anything (λ u. LutLines []) Nothing (λ u text is. lines_some) (λ a v text behind is d. tt) c.in_err-left.ensures.reads))

pub lines-init : goal.lines-init
lines-init c = rw c.new-lines.ensures (after_then (IsWord first_line) Anything (λ u. LutLines []) (text_after c.args.bytes.now) (λ a v text behind is d. tt) c.in_ok-left.ensures.reads)

pub returns-in_err-line : goal.returns-in_err-line
returns-in_err-line c =
    hand_on _ _ _ _ _ _ _ _ _ _ c.from_residual-in_err-line.result c.read_line.result _ c.from_residual-in_err-line.ensures.1 c.in_err-line.was c.read_line.ensures
    (λ left b. lut_broken c.lines.lines c.lines.invariant b)

pub returns-in_err-read_end : goal.returns-in_err-read_end
returns-in_err-read_end c =
    let some : c.in_ok-line.rest.now ≡ [] → ⊥ = λ none. let no : false ≡ true = c.in_err-read_end.ensures.only none in cc (no) in
    hand_broken _ _ _ _ _ c.from_residual-in_err-read_end.result _ c.from_residual-in_err-read_end.ensures.1
    (subst (λ n. Breaks IsProposal Nothing c.args.bytes.now n) (sym c.in_err-read_end.ensures.left) (last_broken c.lines.lines c.in_ok-line.line c.in_default.is some c.lines.invariant c.in_ok-line.ensures))

pub returns-in_default : goal.returns-in_default
returns-in_default c = last_read c.lines.lines c.in_ok-line.line c.in_default.is c.in_ok-read_end.ensures.found c.lines.invariant c.in_ok-line.ensures

pub lines-preserved : goal.lines-preserved
lines-preserved c = rw c.in_ok-push.ensures.ok (lut_read c.lines.lines c.in_ok-line.line c.in-Some.line c.in-Some.is c.lines.invariant c.in_ok-line.ensures)

pub lines-smaller : goal.lines-smaller
lines-smaller c = line_shorter c.in_ok-line.line c.in_ok-line.ensures
