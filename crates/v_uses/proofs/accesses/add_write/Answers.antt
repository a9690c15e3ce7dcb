use Rattle.std.proofs.Common.{refl}
use Rattle.v_uses.proofs.Adding.{one_write}
use Rattle.v_uses.proofs.accesses.add_write.Goals as goal

pub returns : goal.returns
returns c = one_write _ _ _ c.in_ok-push.ensures.ok refl
