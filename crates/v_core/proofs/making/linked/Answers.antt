use Rattle.v_core.proofs.TypedLaws.{linked_behind_chain}
use Rattle.v_core.proofs.FormLaws.{form_behind_chain}
use Rattle.v_core.proofs.SitedLaws.{sited_behind_chain}
use Rattle.v_core.proofs.making.linked.Goals as goal

pub returns-in_ok-push-in-Chain-clause-value : goal.returns-in_ok-push-in-Chain-clause-value
returns-in_ok-push-in-Chain-clause-value c = linked_behind_chain _ _ _ _ _ _ c.in-Chain.is c.in_ok-push-in-Chain.ensures.ok

pub returns-in_ok-push-in-Chain-clause-form : goal.returns-in_ok-push-in-Chain-clause-form
returns-in_ok-push-in-Chain-clause-form c = form_behind_chain _ _ _ _ _ _ c.in-Chain.is c.in_ok-push-in-Chain.ensures.ok

pub returns-in_ok-push-in-Chain-clause-sited : goal.returns-in_ok-push-in-Chain-clause-sited
returns-in_ok-push-in-Chain-clause-sited c = sited_behind_chain _ _ _ _ _ _ c.in-Chain.is c.in_ok-push-in-Chain.ensures.ok
