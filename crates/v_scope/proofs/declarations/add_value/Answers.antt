use Rattle.std.proofs.Common.{ap}
use Rattle.v_meaning.specs.Marks.{placed_marks}
use Rattle.v_scope.proofs.Adding.{none_more, same_end}
use Rattle.v_scope.proofs.declarations.add_value.Goals as goal

pub returns-in-None : goal.returns-in-None
returns-in-None c = none_more _ _ (λ names. ap (placed_marks names) c.in-None.is)

pub returns-in-Some : goal.returns-in-Some
returns-in-Some c = same_end c.add_expr.result _ _ _ _ (λ names. ap (placed_marks names) c.in-Some.is) c.add_expr.ensures
