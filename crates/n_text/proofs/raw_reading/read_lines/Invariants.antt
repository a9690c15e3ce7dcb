use Rattle.std.proofs.Common.{length}
use Rattle.lz_lines.specs.Forms.{Nothing}
use Rattle.lz_lines.proofs.Forms.{After}
use Rattle.n_text.specs.Grammar.{Rest}
use Rattle.n_text.specs.Raw.{bare}
use Rattle.n_text.proofs.raw_reading.read_lines.Given as goal

abbrev pub invariant-lines : goal.invariant-lines
invariant-lines l = After (Rest l.format (bare l.fn.name)) Nothing l.fn.bytes (Rest l.format l.raw) l.left

abbrev pub decreases-lines : goal.decreases-lines
decreases-lines l = length l.left
