use Rattle.v_typing.proofs.OperatorLaws.{recast_is}
use Rattle.v_typing.proofs.operators.recast.Goals as goal

pub returns-clause-value : goal.returns-clause-value
returns-clause-value c = recast_is _ _ c.args.x _ _ c.leaf.ensures.value c.in_ok-t.ensures.value c.is_signed.ensures

pub returns-clause-form : goal.returns-clause-form
returns-clause-form c names h = c.leaf.ensures.form names h.word (c.in_ok-t.ensures.form names h)
