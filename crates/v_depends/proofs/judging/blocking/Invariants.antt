use Rattle.std.proofs.Common.{ℕ, List, flat_map, map, take}
use Rattle.v_uses.specs.Gathered.{process_in}
use Rattle.v_depends.specs.Pairs.{blocking_of}
use Rattle.v_depends.specs.Graphs.{AreMarked, Numbers}
use Rattle.v_depends.proofs.judging.blocking.Given as goal

abbrev pub invariant-loop-process : goal.invariant-loop-process
invariant-loop-process l =
    (names : List (List ℕ)) → Numbers l.graph.numbers names → AreMarked names l.marks (flat_map blocking_of (map process_in (take l.process-index l.processes)))
