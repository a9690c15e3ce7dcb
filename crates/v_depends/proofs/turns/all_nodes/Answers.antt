use Rattle.v_depends.proofs.TurnByTurn.{in_next}
use Rattle.v_depends.proofs.turns.all_nodes.Goals as goal

pub loop-node-preserved : goal.loop-node-preserved
loop-node-preserved c = λ node below. in_next c.loop-node.node node c.loop-node.nodes.items c.push.new.self.items c.in_ok-push.ensures.items c.loop-node.invariant below
