use Rattle.std.proofs.Common.{refl}
use Rattle.v_scope.proofs.Adding.{then_end}
use Rattle.v_scope.proofs.stmts.add_range.Goals as goal

pub returns : goal.returns
returns c = then_end c.add_expr-2.result _ _ _ _ _ _ (λ names. refl) c.in_ok-add_expr.ensures c.add_expr-2.ensures
