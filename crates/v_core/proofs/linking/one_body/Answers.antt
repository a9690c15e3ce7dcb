use Rattle.v_core.proofs.BodyLaws.{body_behind}
use Rattle.v_core.proofs.OpenFormLaws.{body_form_behind}
use Rattle.v_core.proofs.SitedLaws as sited
use Rattle.v_core.proofs.linking.one_body.Goals as goal

pub returns-clause-value : goal.returns-clause-value
returns-clause-value c = body_behind _ _ _ _ _ _ c.in_ok-first.ensures c.new-links.ensures c.in_ok-push.ensures.ok

pub returns-clause-form : goal.returns-clause-form
returns-clause-form c = body_form_behind _ _ _ _ _ _ c.in_ok-first.ensures c.new-links.ensures c.in_ok-push.ensures.ok

pub returns-clause-sited : goal.returns-clause-sited
returns-clause-sited c = sited.body_behind _ _ _ _ _ _ c.in_ok-first.ensures c.new-links.ensures c.in_ok-push.ensures.ok
