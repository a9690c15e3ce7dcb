use Rattle.std.proofs.Common.{length}
use Rattle.lz_lines.specs.Forms.{Nothing}
use Rattle.lz_lines.proofs.Forms.{After}
use Rattle.g_text.specs.Luts.{LutLines}
use Rattle.g_text.specs.Proposals.{IsProposal}
use Rattle.g_text.proofs.proposal.read_lines.Given as goal

abbrev pub invariant-lines : goal.invariant-lines
invariant-lines l = After IsProposal Nothing l.fn.bytes (LutLines l.lines) l.left

abbrev pub decreases-lines : goal.decreases-lines
decreases-lines l = length l.left
