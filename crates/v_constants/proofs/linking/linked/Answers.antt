use Rattle.v_constants.proofs.BodyLaws.{linked_behind}
use Rattle.v_constants.proofs.linking.linked.Goals as goal

pub returns-in_ok-push-in-Chain : goal.returns-in_ok-push-in-Chain
returns-in_ok-push-in-Chain c = linked_behind c.args.x _ c.args.y c.args.operator _ _ c.in-Chain.is c.in_ok-push-in-Chain.ensures.ok
