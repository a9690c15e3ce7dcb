use Rattle.std.proofs.Common.{drop}
use Rattle.lz_lines.specs.Forms.{Anything}
use Rattle.lz_lines.proofs.Forms.{After}
use Rattle.t_trace.specs.Lines.{AreWords}
use Rattle.t_trace.proofs.Words.{AreRest}
use Rattle.t_trace.proofs.reading.read_words.Given as goal

abbrev pub invariant-loop-width : goal.invariant-loop-width
invariant-loop-width l = After (AreWords l.widths) Anything l.bytes (AreRest (drop l.width-index l.widths) l.words.items) l.left
