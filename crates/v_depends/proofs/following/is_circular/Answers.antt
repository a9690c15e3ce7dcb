use Rattle.std.proofs.Common.{[], ◌∷◌, ◌∙◌}
use Rattle.v_depends.proofs.MarkedNames.{circular_is}
use Rattle.v_depends.proofs.following.is_circular.Goals as goal

pub returns : goal.returns
returns c = λ names ds g.
    let name = c.args.name.now in
    c.is_marked.ensures names g.numbered
    ∙ circular_is names ds name c.in_ok-marks.marks (c.in_ok-marks.ensures names (name ∷ []) ds g (c.mark_name.ensures names [] g.numbered (c.in_ok-on.ensures names g.numbered)))
