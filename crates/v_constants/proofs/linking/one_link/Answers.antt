use Rattle.v_constants.proofs.BodyLaws.{linked_first}
use Rattle.v_constants.proofs.linking.one_link.Goals as goal

pub returns : goal.returns
returns c = linked_first c.args.x _ c.args.y c.args.operator _ _ c.in_ok-first.ensures c.new-links.ensures c.in_ok-push.ensures.ok
