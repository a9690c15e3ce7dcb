use Rattle.std.proofs.Common.{map, take}
use Rattle.v_uses.specs.Gathered.{assign_in}
use Rattle.v_depends.specs.Pairs.{dependences_of, pairs_of}
use Rattle.v_depends.specs.Graphs.{IsSomeGraph}
use Rattle.v_depends.proofs.graph.graph_of.Given as goal

abbrev pub invariant-loop-assign : goal.invariant-loop-assign
invariant-loop-assign l = IsSomeGraph l.graph (pairs_of (dependences_of (map assign_in (take l.assign-index l.assigns))))
