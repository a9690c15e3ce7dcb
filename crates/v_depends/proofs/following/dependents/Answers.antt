use Rattle.std.proofs.Common.{ℕ, List, ap, subst, ◌∙◌, arith}
use Rattle.std.proofs.lemmas.Result.{IfOk-weaker}
use Rattle.v_meaning.specs.ProcessRules.{Dependence}
use Rattle.v_depends.specs.Pairs.{pairs_of}
use Rattle.v_depends.specs.Graphs.{AreMarked, Followers, IsGraph}
use Rattle.v_depends.specs.Nodes.{IsReached, sources, starts_of}
use Rattle.v_depends.proofs.MarkedNames.{followers_are}
use Rattle.v_depends.proofs.following.dependents.Goals as goal

pub returns : goal.returns
returns c =
    let graph = c.args.graph.now in
    let rows = c.in_ok-rows.rows.items in
    let on = c.args.on.now in
    let starts = c.as_slice-2.ensures.value ∙ c.in_ok-nodes.ensures ∙ ap (starts_of on) c.as_slice-edges.ensures.value in
    IfOk-weaker c.reached_from.result (IsReached c.as_slice.result.now c.as_slice-2.result.now)
    (λ marks. (names ons : List (List ℕ)) (ds : List Dependence) → IsGraph graph names (pairs_of ds) → AreMarked names on ons → Followers names ds ons marks)
    (λ marks r names ons ds g m.
    followers_are graph names ons ds rows on marks g m (c.in_ok-rows.ensures.long ∙ c.len.ensures.len ∙ g.numbered.count)
    (λ node below. c.in_ok-rows.ensures.each node (omega (arith, c.in_ok-rows.ensures.long)) ∙ ap (λ (es : List (ℕ × ℕ)). sources es node) c.as_slice-edges.ensures.value)
    (subst (λ (l : List (List ℕ)). IsReached l (starts_of on graph.edges.items) marks) c.as_slice.ensures.value (subst (λ (l : List ℕ). IsReached c.as_slice.result.now l marks) starts r)))
    c.reached_from.ensures
