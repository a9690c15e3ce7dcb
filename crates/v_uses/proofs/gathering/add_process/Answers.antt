use Rattle.std.proofs.Common.{refl}
use Rattle.v_uses.proofs.ItemUses.{one_process}
use Rattle.v_uses.proofs.gathering.add_process.Goals as goal

pub returns : goal.returns
returns c = one_process _ _ _ _ _ _ c.in_ok-push.ensures.ok refl refl c.no_accesses-found.ensures c.in_ok-add_stmt.ensures
