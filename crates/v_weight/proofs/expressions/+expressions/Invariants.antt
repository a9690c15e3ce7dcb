use Rattle.v_weight.proofs.Turns.{ChainTo, PartsTo}
use Rattle.v_weight.proofs.expressions.+expressions.Given as goal

abbrev pub invariant-weigh_chain-loop-operator : goal.invariant-weigh_chain-loop-operator
invariant-weigh_chain-loop-operator l = ChainTo l.names l.links l.operator-index l.initial.all l.all

abbrev pub invariant-weigh_parts-loop-x : goal.invariant-weigh_parts-loop-x
invariant-weigh_parts-loop-x l = PartsTo l.names l.parts l.x-index l.width l.weight l.is_constant
