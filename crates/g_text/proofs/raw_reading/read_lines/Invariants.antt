use Rattle.std.proofs.Common.{length}
use Rattle.lz_lines.specs.Forms.{Nothing}
use Rattle.lz_lines.proofs.Forms.{After}
use Rattle.g_text.specs.Grammar.{Rest}
use Rattle.g_text.specs.Raw.{bare}
use Rattle.g_text.proofs.raw_reading.read_lines.Given as goal

abbrev pub invariant-lines : goal.invariant-lines
invariant-lines l = After (Rest (bare l.fn.name)) Nothing l.fn.bytes (Rest l.raw) l.left

abbrev pub decreases-lines : goal.decreases-lines
decreases-lines l = length l.left
