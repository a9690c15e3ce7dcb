use Rattle.std.proofs.Common.{refl}
use Rattle.v_scope.proofs.Adding.{three_end}
use Rattle.v_scope.proofs.declarations.SettingListed.add_to.Goals as goal

pub returns : goal.returns
returns c = three_end c.add-2.result _ _ _ _ _ _ _ _ (λ names. refl) c.in_ok-add.ensures c.in_ok-add_expr.ensures c.add-2.ensures
