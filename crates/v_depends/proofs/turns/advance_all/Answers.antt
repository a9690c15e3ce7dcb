use Rattle.v_depends.proofs.TurnByTurn.{advances_next}
use Rattle.v_depends.proofs.turns.advance_all.Goals as goal

pub loop-node-preserved : goal.loop-node-preserved
loop-node-preserved c = λ t.
    let a = c.loop-node.invariant t in
    advances_next c.args.rows.now c.args.turns.now.reached.order.items c.args.nodes.now c.loop-node.turns c.advance.new.turns c.loop-node.node-index c.loop-node-test.true a (c.in_ok-advance.ensures a.now)
