-- A word that keeps its width is itself.
use Rattle.x_expr.proofs.Folds.{extended_there}
use Rattle.x_expr.proofs.folding.extended.Goals as goal

pub returns-in-None : goal.returns-in-None
returns-in-None c = extended_there _ _ _ _ _ c.constant.ensures.arena c.requires c.if-from-to.true
