use Rattle.std.proofs.Common.{◌++◌, [], ◌∷◌, false, take, flat_map, append_assoc, ap, sym, ◌∙◌}
use Rattle.m_valid.specs.declared.nodes.Node.TheVariants.{Source}
use Rattle.m_valid.specs.Nodes.{flip_nodes}
use Rattle.m_valid.proofs.Lists.{flat_map_take}
use Rattle.m_valid.proofs.nodes.push_flips.Goals as goal

pub loop-flip-preserved : goal.loop-flip-preserved
loop-flip-preserved c =
    let i = c.loop-flip._flip-index in
    let flips = c.args.flips.now in
    c.in_ok-push.ensures.items ∙ ap (λ l. l ++ Source ∷ []) c.loop-flip.invariant ∙ append_assoc c.args.all.now.items (flat_map flip_nodes (take i flips)) (Source ∷ [])
    ∙ ap (λ l. c.args.all.now.items ++ l) (sym (flat_map_take flip_nodes flips i (record { first = false; literal = 0; enable = 0 }) c.loop-flip-test.true))
