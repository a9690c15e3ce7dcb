use Rattle.std.proofs.Common.{refl}
use Rattle.v_uses.proofs.Adding.{one_read}
use Rattle.v_uses.proofs.accesses.add_read.Goals as goal

pub returns : goal.returns
returns c = one_read _ _ _ c.in_ok-push.ensures.ok refl
