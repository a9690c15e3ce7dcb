-- The law of the nodes of an arena.
use Rattle.x_expr.proofs.Arenas.{node_stands, value_stands}
use Rattle.x_expr.proofs.law.nodes_stand.Goals as goal

pub returns : goal.returns
returns c = record { node = node_stands; value = value_stands }
