use Rattle.std.proofs.Common.{take}
use Rattle.v_depends.specs.Turning.{Advances, AreTurns}
use Rattle.v_depends.proofs.turns.advance_all.Given as goal

abbrev pub invariant-loop-node : goal.invariant-loop-node
invariant-loop-node l = AreTurns l.rows l.initial.turns → Advances l.rows l.initial.turns.reached.order.items (take l.node-index l.nodes) l.turns
