-- The node that is taken up stands at its number, and the nodes are those of an arena.
use Rattle.std.proofs.Common.{Some, ap, sym, ◌∙◌}
use Rattle.std.specs.Option.{option_map}
use Rattle.x_expr.specs.Nodes.{shape_of}
use Rattle.x_expr.proofs.Arenas.{value_stands}
use Rattle.x_expr.proofs.Equal.{same}
use Rattle.x_expr.proofs.Made.{made}
use Rattle.x_expr.proofs.arena.Arena.mk.Goals as goal

pub returns-clause-there : goal.returns-clause-there
returns-clause-there c = let s = c.in_ok-number.ensures.stored in s.1 ∙ ap Some (sym (same _ _ s.2))

pub returns-clause-shape : goal.returns-clause-shape
returns-clause-shape c = ap (option_map shape_of) (returns-clause-there c)

pub invariant_of-self-2 : goal.invariant_of-self-2
invariant_of-self-2 c = (made c.self.view_is c.self.invariant c.requires c.in_ok-number.ensures.keys).arena

pub returns-clause-arena : goal.returns-clause-arena
returns-clause-arena c = invariant_of-self-2 c

pub returns-clause-value : goal.returns-clause-value
returns-clause-value c = value_stands _ _ _ (returns-clause-arena c) (returns-clause-there c)

pub returns-clause-found : goal.returns-clause-found
returns-clause-found c = (made c.self.view_is c.self.invariant c.requires c.in_ok-number.ensures.keys).found

pub returns-clause-all : goal.returns-clause-all
returns-clause-all c = (made c.self.view_is c.self.invariant c.requires c.in_ok-number.ensures.keys).every

pub returns-clause-extends : goal.returns-clause-extends
returns-clause-extends c = (made c.self.view_is c.self.invariant c.requires c.in_ok-number.ensures.keys).extends
