use Rattle.std.proofs.Common.{ℕ, List, [], ◌∷◌, ◌++◌, ap, subst, ◌∙◌}
use Rattle.v_depends.specs.Graphs.{AreMarked}
use Rattle.v_depends.proofs.Gathering.{blocking_one}
use Rattle.v_depends.proofs.judging.mark_if_blocking.Goals as goal

pub returns-in-Blocking : goal.returns-in-Blocking
returns-in-Blocking c = λ names ons n m.
    subst (λ (l : List (List ℕ)). AreMarked names c.mark_name.new.marks (ons ++ l)) (ap (λ (x : List ℕ). x ∷ []) c.bytes.ensures.value ∙ blocking_one c.args.write.now c.in-Blocking.is)
    (c.mark_name.ensures names ons n m)
