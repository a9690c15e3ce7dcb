use Rattle.v_core.specs.declared.modules.TypedProcess.{TypedProcess}
use Rattle.v_core.specs.FormedCores.{is_formed_stmt}
use Rattle.v_core.specs.SitedCores.{is_sited_stmt}
use Rattle.v_typed.proofs.Formed.{pushed}
use Rattle.v_typed.proofs.parts.add_process.Goals as goal

pub returns-clause-form : goal.returns-clause-form
returns-clause-form c = pushed (λ (p : TypedProcess). is_formed_stmt p.body c.args.names.now) _ _ _ c.in_ok-push.ensures.ok c.in_ok-body.ensures.form

pub returns-clause-sited : goal.returns-clause-sited
returns-clause-sited c widths read =
    pushed (λ (p : TypedProcess). is_sited_stmt p.body c.args.names.now widths) _ _ _ c.in_ok-push.ensures.ok (c.in_ok-body.ensures.sited widths read)
