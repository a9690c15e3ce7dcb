use Rattle.v_typing.proofs.KeepLaws.{shifted_formed}
use Rattle.v_typing.proofs.SitedLaws.{shifted_sited}
use Rattle.v_typing.proofs.operators.shifted.Goals as goal

pub returns-clause-form : goal.returns-clause-form
returns-clause-form c names is h k =
    shifted_formed _ c.args.x c.args.y _ _ _ names c.in_ok-body.ensures.form c.itself.ensures.form (c.in_ok-by.ensures.form names) is h k

pub returns-clause-sited : goal.returns-clause-sited
returns-clause-sited c = shifted_sited _ _ _ _ _ c.in_ok-body.ensures.sited c.itself.ensures.sited c.in_ok-by.ensures.sited
