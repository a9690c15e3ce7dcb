-- A constant that is taken up has the value of the node for which it stands.
use Rattle.std.proofs.Common.{◌∙◌, sym}
use Rattle.x_expr.proofs.Arenas.{meaning_grown}
use Rattle.x_expr.proofs.arena.Arena.fold.Goals as goal

pub returns-in_ok-number-in-Constant-clause-value : goal.returns-in_ok-number-in-Constant-clause-value
returns-in_ok-number-in-Constant-clause-value c = λ v.
    c.in_ok-number-in-Constant.ensures.value v ∙ sym (c.in-Constant.ensures.3 v)
    ∙ meaning_grown _ _ _ v c.in_ok-number-in-Constant.ensures.extends c.requires
