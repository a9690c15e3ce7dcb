use Rattle.std.proofs.Common.{List, ℕ, [], ◌∷◌, subst}
use Rattle.lz_base.specs.Met.{Met}
use Rattle.lz_lines.proofs.judging.meet_clock.Goals as goal

pub returns-in_ok-meet-in-Some-clause-met : goal.returns-in_ok-meet-in-Some-clause-met
returns-in_ok-meet-in-Some-clause-met c met =
    rw c.in-Some.is (subst (λ (name : List ℕ). Met c.meet.new.met (name ∷ [])) c.bytes-name.ensures.value ((c.in_ok-meet-in-Some.ensures [] met).1))
