use Rattle.v_constants.proofs.BodyLaws.{shifted_behind}
use Rattle.v_constants.proofs.linking.shifted.Goals as goal

pub returns-in_ok-push-in-Shifts : goal.returns-in_ok-push-in-Shifts
returns-in_ok-push-in-Shifts c = shifted_behind c.args.x _ c.args.operator c.args.by _ _ c.requires c.in-Shifts.is c.in_ok-push-in-Shifts.ensures.ok
