use Rattle.std.proofs.Common.{refl}
use Rattle.v_scope.proofs.Adding.{then_end}
use Rattle.v_scope.proofs.declarations.add_assign.Goals as goal

pub returns : goal.returns
returns c = then_end c.add_expr.result _ _ _ _ _ _ (λ names. refl) c.in_ok-add.ensures c.add_expr.ensures
