use Rattle.std.proofs.Common.{take}
use Rattle.t_trace.specs.Widths.{FitWidths}
use Rattle.v_values.specs.Seen.{widths_of}
use Rattle.v_run.proofs.widths.keep.Given as goal

abbrev pub invariant-loop-word : goal.invariant-loop-word
invariant-loop-word l = FitWidths (widths_of (take l.word-index l.words)) (take l.word-index l.words)
