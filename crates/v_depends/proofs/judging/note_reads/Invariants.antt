use Rattle.std.proofs.Common.{◌≡◌, ℕ, List, map, take}
use Rattle.v_meaning.specs.ProcessRules.{Dependence, places_if}
use Rattle.v_scope.specs.Firsts.{least_from}
use Rattle.v_depends.specs.Pairs.{follows}
use Rattle.v_depends.specs.Graphs.{Followers, Numbers}
use Rattle.v_depends.proofs.judging.note_reads.Given as goal

abbrev pub invariant-loop-read : goal.invariant-loop-read
invariant-loop-read l =
    (names ons : List (List ℕ)) (ds : List Dependence) → Numbers l.graph.numbers names → Followers names ds ons l.marks
    → l.first ≡ least_from l.initial.first (places_if (follows ds ons) (map (λ r. r.now) (take l.read-index l.reads)))
