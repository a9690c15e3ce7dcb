use Rattle.std.proofs.Common.{subst, ◌∷◌, [], ◌++◌}
use Rattle.lz_base.specs.Met.{Met}
use Rattle.v_rules.proofs.Sets.{tested}
use Rattle.v_rules.proofs.Shared.{shared_one, shared_none}
use Rattle.v_rules.proofs.variables.share.Goals as goal

pub returns-in_ok-meet : goal.returns-in_ok-meet
returns-in_ok-meet c before names m s =
    shared_one before names _ _ _ (tested _ _ _ before c.bytes.ensures.value (c.is_met.ensures before m)) c.if-is_met.true
    (subst (λ k. Met c.meet.new.met (names ++ k ∷ [])) c.bytes-then-is_met.ensures.value ((c.in_ok-meet.ensures names s).1))

pub returns-else-is_met : goal.returns-else-is_met
returns-else-is_met c before names m s = shared_none before names _ _ _ (tested _ _ _ before c.bytes.ensures.value (c.is_met.ensures before m)) c.if-is_met.false s
