use Rattle.v_core.proofs.BodyLaws.{body_behind_chain}
use Rattle.v_core.proofs.OpenFormLaws.{body_form_behind_chain}
use Rattle.v_core.proofs.SitedLaws as sited
use Rattle.v_core.proofs.linking.body_linked.Goals as goal

pub returns-in_ok-push-in-Chain-clause-value : goal.returns-in_ok-push-in-Chain-clause-value
returns-in_ok-push-in-Chain-clause-value c = body_behind_chain _ _ _ _ _ _ c.in-Chain.is c.in_ok-push-in-Chain.ensures.ok

pub returns-in_ok-push-in-Chain-clause-form : goal.returns-in_ok-push-in-Chain-clause-form
returns-in_ok-push-in-Chain-clause-form c = body_form_behind_chain _ _ _ _ _ _ c.in-Chain.is c.in_ok-push-in-Chain.ensures.ok

pub returns-in_ok-push-in-Chain-clause-sited : goal.returns-in_ok-push-in-Chain-clause-sited
returns-in_ok-push-in-Chain-clause-sited c = sited.body_behind_chain _ _ _ _ _ _ c.in-Chain.is c.in_ok-push-in-Chain.ensures.ok
