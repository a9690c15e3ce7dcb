use Rattle.std.proofs.Common.{length}
use Rattle.lz_lines.specs.Forms.{Nothing}
use Rattle.lz_lines.proofs.Forms.{After}
use Rattle.t_trace.specs.Lines.{IsCycles, head_word}
use Rattle.t_trace.proofs.Cycles.{CycleLines}
use Rattle.t_trace.proofs.reading.read_cycles.Given as goal

abbrev pub invariant-lines : goal.invariant-lines
invariant-lines l = After (IsCycles l.fn.first (head_word l.fn.head) l.fn.widths) Nothing l.fn.bytes (CycleLines l.fn.widths (head_word l.fn.head) l.cycles) l.left

abbrev pub decreases-lines : goal.decreases-lines
decreases-lines l = length l.left
