use Rattle.std.proofs.Common.{◌∙◌}
use Rattle.v_depends.proofs.Walks.{adds_next}
use Rattle.v_depends.proofs.walking.reach_all.Goals as goal

pub loop-node-preserved : goal.loop-node-preserved
loop-node-preserved c = record {
  marked = λ m. c.in_ok-reach.ensures.marked (c.loop-node.invariant.marked m);
  long = c.in_ok-reach.ensures.long ∙ c.loop-node.invariant.long;
  adds = λ m. adds_next _ _ _ _ _ c.args.nodes.now c.loop-node.node-index c.loop-node-test.true c.loop-node.invariant.long (c.loop-node.invariant.adds m)
      (c.in_ok-reach.ensures.adds (c.loop-node.invariant.marked m));
}
