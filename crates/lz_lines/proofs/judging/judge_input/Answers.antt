use Rattle.std.proofs.Common.{List, ℕ, ◌++◌, ◌∷◌, [], subst}
use Rattle.lz_base.specs.Met.{Met}
use Rattle.lz_lines.proofs.judging.judge_input.Goals as goal

pub returns-clause-met : goal.returns-clause-met
returns-clause-met c names met = subst (λ (name : List ℕ). Met c.meet.new.met (names ++ name ∷ [])) c.bytes-name.ensures.value ((c.in_ok-meet.ensures names met).1)
