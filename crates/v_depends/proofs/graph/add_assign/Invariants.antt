use Rattle.std.proofs.Common.{ℕ, List, ◌++◌, map, take}
use Rattle.v_meaning.specs.ProcessRules.{ident_names}
use Rattle.v_depends.specs.Pairs.{pairs_with}
use Rattle.v_depends.specs.Graphs.{IsSomeGraph}
use Rattle.v_depends.proofs.graph.add_assign.Given as goal

abbrev pub invariant-loop-read : goal.invariant-loop-read
invariant-loop-read l =
    (pairs : List (List ℕ × List ℕ)) → IsSomeGraph l.initial.graph pairs
    → IsSomeGraph l.graph (pairs ++ pairs_with l.assign.target.now.name (ident_names (map (λ n. n.now) (take l.read-index l.read-items))))
