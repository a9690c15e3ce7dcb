use Rattle.v_scope.proofs.Adding.{same_end}
use Rattle.v_scope.proofs.ExprMarks.{unsized_is}
use Rattle.v_scope.proofs.exprs.add_unsized_number.Goals as goal

pub returns-then-is_unsized : goal.returns-then-is_unsized
returns-then-is_unsized c = same_end c.add.result _ _ _ _ (unsized_is c.args.number.now _ c.is_unsized.ensures c.if-is_unsized.true) c.add.ensures
