use Rattle.v_core.proofs.TypedLaws.{linked_behind}
use Rattle.v_core.proofs.FormLaws.{form_behind}
use Rattle.v_core.proofs.SitedLaws.{sited_behind}
use Rattle.v_core.proofs.making.one_link.Goals as goal

pub returns-clause-value : goal.returns-clause-value
returns-clause-value c = linked_behind _ _ _ _ _ _ c.new-links.ensures c.in_ok-push.ensures.ok c.in_ok-chain.ensures.value

pub returns-clause-form : goal.returns-clause-form
returns-clause-form c = form_behind _ _ _ _ _ _ c.new-links.ensures c.in_ok-push.ensures.ok c.in_ok-chain.ensures.form

pub returns-clause-sited : goal.returns-clause-sited
returns-clause-sited c = sited_behind _ _ _ _ _ _ c.new-links.ensures c.in_ok-push.ensures.ok c.in_ok-chain.ensures.sited
