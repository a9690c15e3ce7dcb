use Rattle.v_weight.proofs.Turns.{ComparedTo}
use Rattle.v_weight.proofs.statements.weigh_items.Given as goal

abbrev pub invariant-loop-x : goal.invariant-loop-x
invariant-loop-x l = ComparedTo l.names l.items l.x-index l.initial.all l.all
