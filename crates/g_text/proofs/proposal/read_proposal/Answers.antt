use Rattle.std.proofs.Common.{subst}
use Rattle.lz_lines.specs.declared.unread.Unread.{Unread}
use Rattle.lz_lines.specs.Forms.{Breaks, Fails, Nothing}
use Rattle.lz_lines.proofs.Places.{none_is, place_is}
use Rattle.g_text.specs.Proposals.{IsProposal}
use Rattle.g_text.proofs.proposal.read_proposal.Goals as goal

pub returns-in-Err-Broken-clause-only : goal.returns-in-Err-Broken-clause-only
returns-in-Err-Broken-clause-only c lines is =
    let broken : Breaks IsProposal Nothing c.args.bytes.now c.in-Err-Broken.broken.left = subst (λ (e : Unread). Fails IsProposal Nothing c.args.bytes.now e) c.in-Err-Broken.field-0-is c.in-Err-Broken.ensures in
    absurd (none_is broken lines is)

pub returns-in-Err-Broken-clause-place : goal.returns-in-Err-Broken-clause-place
returns-in-Err-Broken-clause-place c =
    let broken : Breaks IsProposal Nothing c.args.bytes.now c.in-Err-Broken.broken.left = subst (λ (e : Unread). Fails IsProposal Nothing c.args.bytes.now e) c.in-Err-Broken.field-0-is c.in-Err-Broken.ensures in
    record { place_is = place_is broken; none = λ lines is. none_is broken lines is }
