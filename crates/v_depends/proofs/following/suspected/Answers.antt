use Rattle.std.proofs.Common.{ℕ, List, subst, ◌∙◌}
use Rattle.std.proofs.lemmas.Result.{IfOk-weaker}
use Rattle.v_meaning.specs.ProcessRules.{Dependence}
use Rattle.v_depends.specs.Pairs.{pairs_of}
use Rattle.v_depends.specs.Graphs.{IsGraph, Suspected}
use Rattle.v_depends.specs.Nodes.{IsSuspect}
use Rattle.v_depends.proofs.MarkedNames.{suspected_are}
use Rattle.v_depends.proofs.following.suspected.Goals as goal

pub returns : goal.returns
returns c =
    IfOk-weaker c.suspects.result (IsSuspect c.len.result c.as_slice.result.now) (λ marks. (names : List (List ℕ)) (ds : List Dependence) → IsGraph c.args.graph.now names (pairs_of ds) → Suspected names ds marks)
    (λ marks s names ds g.
    suspected_are c.args.graph.now names ds c.len.result marks g (subst (λ (es : List (ℕ × ℕ)). IsSuspect c.len.result es marks) c.as_slice.ensures.value s) (c.len.ensures.len ∙ g.numbered.count))
    c.suspects.ensures
