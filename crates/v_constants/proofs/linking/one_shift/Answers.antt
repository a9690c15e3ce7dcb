use Rattle.v_constants.proofs.BodyLaws.{shifted_first}
use Rattle.v_constants.proofs.linking.one_shift.Goals as goal

pub returns : goal.returns
returns c = shifted_first c.args.x _ c.args.operator c.args.by _ _ c.requires c.in_ok-first.ensures c.new-links.ensures c.in_ok-push.ensures.ok
