use Rattle.std.proofs.Common.{ℕ, List, ◌++◌, map, take}
use Rattle.v_uses.specs.Gathered.{written_in}
use Rattle.v_depends.specs.Pairs.{blocking_in}
use Rattle.v_depends.specs.Graphs.{AreMarked, Numbers}
use Rattle.v_depends.proofs.judging.mark_blocking.Given as goal

abbrev pub invariant-loop-write : goal.invariant-loop-write
invariant-loop-write l =
    (names ons : List (List ℕ)) → Numbers l.graph.numbers names → AreMarked names l.initial.marks ons
    → AreMarked names l.marks (ons ++ blocking_in (map written_in (take l.write-index l.write-items)))
