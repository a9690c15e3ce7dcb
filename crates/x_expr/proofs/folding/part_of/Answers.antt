-- A node of an arena keeps to its widths.
use Rattle.x_expr.proofs.Arenas.{node_stands}
use Rattle.x_expr.proofs.folding.part_of.Goals as goal

pub shape_of-requires-then-low-eq0 : goal.shape_of-requires-then-low-eq0
shape_of-requires-then-low-eq0 c = (c.args.arena.now, node_stands _ _ _ c.node.ensures.arena c.node.ensures.there)
