use Rattle.std.proofs.Common.{◌≡◌, sym, subst, ◌∙◌}
use Rattle.v_syntax.specs.Small.{HasNames}
use Rattle.v_small.proofs.Again.{one_spelling}
use Rattle.v_small.proofs.reading.read.Goals as goal

pub returns-then-branch-clause-found : goal.returns-then-branch-clause-found
returns-then-branch-clause-found c = record { spelled = rw c.in-Some.is at c.in_ok-small.ensures.found; names = c.in_ok-has_names.ensures.0 c.if-branch.true }

pub returns-else-branch-clause-none : goal.returns-else-branch-clause-none
returns-else-branch-clause-none c = λ s small.
    let spelled = rw c.in-Some.is at c.in_ok-small.ensures.found in
    let same : c.in-Some.small ≡ s = one_spelling c.in-Some.small s (sym spelled ∙ small.spelled) in
    absurd (cc (c.in_ok-has_names.ensures.1 (subst HasNames (sym same) small.names), c.if-branch.false))
