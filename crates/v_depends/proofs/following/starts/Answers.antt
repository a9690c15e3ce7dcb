use Rattle.std.proofs.Common.{◌++◌, ◌∷◌, [], get_or, ap, ◌∙◌, sym}
use Rattle.v_depends.specs.Nodes.{starts_of}
use Rattle.v_depends.proofs.Gathering.{from_next_at, starts_more}
use Rattle.v_depends.proofs.following.starts.Goals as goal

pub loop-edge-preserved : goal.loop-edge-preserved
loop-edge-preserved c =
    c.in_ok-add_start.ensures ∙ ap (λ l. l ++ starts_of c.args.on.now (get_or c.args.edges.now c.loop-edge.edge-index (0, 0) ∷ [])) c.loop-edge.invariant
    ∙ sym (from_next_at (starts_of c.args.on.now) (starts_more c.args.on.now) c.args.edges.now c.loop-edge.edge-index (0, 0) c.loop-edge-test.true)
