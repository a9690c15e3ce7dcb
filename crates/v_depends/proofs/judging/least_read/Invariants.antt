use Rattle.std.proofs.Common.{◌≡◌, None, ℕ, List, flat_map, take}
use Rattle.v_meaning.specs.ProcessRules.{Dependence, places_if}
use Rattle.v_scope.specs.Firsts.{least_from}
use Rattle.v_uses.specs.Gathered.{process_in}
use Rattle.v_depends.specs.Pairs.{follows}
use Rattle.v_depends.specs.Graphs.{Followers, Numbers}
use Rattle.v_depends.proofs.judging.least_read.Given as goal

abbrev pub invariant-loop-process : goal.invariant-loop-process
invariant-loop-process l =
    (names ons : List (List ℕ)) (ds : List Dependence) → Numbers l.graph.numbers names → Followers names ds ons l.marks
    → l.first ≡ least_from None (places_if (follows ds ons) (flat_map (λ p. (process_in p).reads) (take l.process-index l.processes)))
