use Rattle.std.proofs.Common.{◌≡◌, None, ℕ, List, map, take}
use Rattle.v_meaning.specs.ProcessRules.{Dependence, places_if}
use Rattle.v_scope.specs.Firsts.{least_from}
use Rattle.v_depends.specs.Pairs.{is_circular_by, pairs_of}
use Rattle.v_depends.specs.Graphs.{IsGraph, Suspected}
use Rattle.v_depends.proofs.judging.least_circular.Given as goal

abbrev pub invariant-loop-assign : goal.invariant-loop-assign
invariant-loop-assign l =
    (names : List (List ℕ)) (ds : List Dependence) → IsGraph l.graph names (pairs_of ds) → Suspected names ds l.suspects
    → l.first ≡ least_from None (places_if (is_circular_by ds) (map (λ a. a.target.now) (take l.assign-index l.assigns)))
