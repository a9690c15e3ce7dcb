use Rattle.std.proofs.Common.{take}
use Rattle.g_build.specs.Indexing.{Indexes}
use Rattle.g_build.proofs.index.Index.of.Given as goal

abbrev pub invariant-loop-i : goal.invariant-loop-i
invariant-loop-i l = Indexes l.index (take l.i l.gates)
