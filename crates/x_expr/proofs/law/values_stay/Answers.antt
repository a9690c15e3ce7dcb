-- The law of nodes that come behind others.
use Rattle.x_expr.proofs.Arenas.{node_grown, value_grown}
use Rattle.x_expr.proofs.law.values_stay.Goals as goal

pub returns-clause-node : goal.returns-clause-node
returns-clause-node c = node_grown

pub returns-clause-value : goal.returns-clause-value
returns-clause-value c = value_grown
