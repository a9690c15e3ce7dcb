use Rattle.v_sites.proofs.Adding.{one_more}
use Rattle.v_sites.proofs.leaves.add.Goals as goal

pub returns : goal.returns
returns c = one_more _ _ _ _ c.requires.has_bit c.requires.within c.in_ok-push.ensures.ok
