use Rattle.v_typing.proofs.KeepLaws.{chosen_formed}
use Rattle.v_typing.proofs.SitedLaws.{chosen_sited}
use Rattle.v_typing.proofs.operators.chosen.Goals as goal

pub returns-clause-form : goal.returns-clause-form
returns-clause-form c names j h k =
    chosen_formed c.args.x c.args.y c.args.c _ _ _ _ names c.max-width.ensures (c.in_ok-condition.ensures.form names) c.in_ok-x.ensures c.in_ok-y.ensures j h k

pub returns-clause-sited : goal.returns-clause-sited
returns-clause-sited c = chosen_sited _ _ _ _ _ _ c.in_ok-condition.ensures.sited c.in_ok-x.ensures c.in_ok-y.ensures
