use Rattle.v_scope.proofs.Adding.{same_end}
use Rattle.v_scope.proofs.ExprMarks.{number_is}
use Rattle.v_scope.proofs.exprs.add_unsized.Goals as goal

pub returns-in-Some : goal.returns-in-Some
returns-in-Some c = same_end c.add_unsized_number.result _ _ _ _ (number_is _ _ _ c.number_of.ensures c.in-Some.is) c.add_unsized_number.ensures
