use Rattle.std.proofs.Common.{subst, sym, take}
use Rattle.v_depends.specs.Graphs.{IsSomeGraph}
use Rattle.v_depends.proofs.Gathering.{assign_pairs, assign_pairs_more, from_next}
use Rattle.v_depends.proofs.graph.graph_of.Goals as goal

pub loop-assign-preserved : goal.loop-assign-preserved
loop-assign-preserved c =
    subst (IsSomeGraph c.add_assign.new.graph)
    (sym (from_next assign_pairs assign_pairs_more c.args.assigns.now c.loop-assign.assign-index c.assign-item.result c.loop-assign-test.true c.assign-item.is))
    (c.in_ok-add_assign.ensures (assign_pairs (take c.loop-assign.assign-index c.args.assigns.now)) c.loop-assign.invariant)
