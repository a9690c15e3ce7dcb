use Rattle.std.proofs.Common.{refl}
use Rattle.v_uses.proofs.ItemUses.{one_assign}
use Rattle.v_uses.proofs.gathering.add_assign.Goals as goal

pub returns : goal.returns
returns c = one_assign _ _ _ _ _ _ c.in_ok-push.ensures.ok refl c.no_accesses-found.ensures c.in_ok-add_expr.ensures
