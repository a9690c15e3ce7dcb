use Rattle.std.proofs.lemmas.Result.{IfOk-weaker}
use Rattle.v_typed.proofs.Formed.{side_keeps}
use Rattle.v_typed.proofs.NetAssigns.{right_side_is}
use Rattle.v_typed.proofs.Read.{side_sited}
use Rattle.v_typed.proofs.assigns.right_side.Goals as goal

pub returns-clause-value : goal.returns-clause-value
returns-clause-value c =
    IfOk-weaker _ _ _ (λ t p. right_side_is c.args.names.now c.in_ok-side.side t _ _ _ c.in_ok-side.ensures.value c.max.ensures p) c.fix.ensures.value

pub returns-clause-form : goal.returns-clause-form
returns-clause-form c = IfOk-weaker _ _ _ (λ t p. side_keeps c.args.names.now c.in_ok-side.side t _ _ p c.max.ensures c.in_ok-side.ensures.form) c.fix.ensures.form

pub returns-clause-sited : goal.returns-clause-sited
returns-clause-sited c =
    IfOk-weaker _ _ _ (λ t p. side_sited c.args.names.now c.args.sites.now c.args.x.now c.in_ok-side.side t p c.in_ok-side.ensures.sited) c.fix.ensures.sited
