use Rattle.std.proofs.Common.{◌≡◌, None, ℕ, List, [], ap, map, ◌∙◌}
use Rattle.std.proofs.lemmas.Result.{IfOk-weaker}
use Rattle.v_meaning.specs.Uses as m
use Rattle.v_meaning.specs.ProcessRules.{Dependence, circular, combinational_of, places_if}
use Rattle.v_scope.specs.Firsts.{least_from}
use Rattle.v_uses.specs.declared.gathered.AssignUses.{AssignUses}
use Rattle.v_uses.specs.Gathered.{assign_in, uses_in}
use Rattle.v_uses.specs.Seen.{seen_of}
use Rattle.v_depends.specs.Pairs.{dependences_of, is_circular_by, pairs_of}
use Rattle.v_depends.specs.Graphs.{IsGraph, Suspected}
use Rattle.v_depends.proofs.Least.{circular_of}
use Rattle.v_depends.proofs.judging.first_circular.Goals as goal

pub returns : goal.returns
returns c =
    let assigns = c.as_slice-assigns.result.now in
    let ds = dependences_of (map assign_in assigns) in
    let graph = c.in_ok-graph.ensures in
    IfOk-weaker c.least_circular.result
    (λ first. (names : List (List ℕ)) (ds : List Dependence) → IsGraph c.in_ok-graph.graph names (pairs_of ds) → Suspected names ds c.in_ok-suspects.suspects
    → first ≡ least_from None (places_if (is_circular_by ds) (map (λ (a : AssignUses). a.target.now) assigns)))
    (λ first. (u : m.Uses) → uses_in c.args.uses.now ≡ seen_of u → combinational_of u ≡ [] → first ≡ least_from None (circular u))
    (λ first is u same clocked.
    is graph.0 ds graph.1 (c.in_ok-suspects.ensures graph.0 ds graph.1)
    ∙ ap (λ (l : List AssignUses). least_from None (places_if (is_circular_by (dependences_of (map assign_in l))) (map (λ (a : AssignUses). a.target.now) l))) c.as_slice-assigns.ensures
    ∙ ap (least_from None) (circular_of c.args.uses.now u same clocked))
    c.least_circular.ensures
