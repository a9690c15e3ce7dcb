use Rattle.v_core.specs.declared.modules.TypedAssign.{TypedAssign}
use Rattle.v_core.specs.Formed.{formed}
use Rattle.v_core.specs.Sited.{is_sited}
use Rattle.v_typed.proofs.Formed.{pushed}
use Rattle.v_typed.proofs.Measured.{measured_pushed}
use Rattle.v_typed.proofs.NetAssigns.{net_assigned, no_net}
use Rattle.v_typed.proofs.assigns.add_assign.Goals as goal

pub returns-in_ok-push-in-Net-clause-form : goal.returns-in_ok-push-in-Net-clause-form
returns-in_ok-push-in-Net-clause-form c =
    pushed (λ (a : TypedAssign). (formed a.value c.args.names.now).kept) _ _ _ c.in_ok-push-in-Net.ensures.ok (c.in_ok-value-in-Net.ensures.form c.known-known.ensures.within)

pub returns-in_ok-push-in-Net-clause-value : goal.returns-in_ok-push-in-Net-clause-value
returns-in_ok-push-in-Net-clause-value c =
    net_assigned c.args.names.now c.args.sites.now c.args.name.now c.args.value.now _ _ _ _ _ _
    c.known-known.ensures.kind c.in-Net.is c.known-known.ensures.width c.in_ok-value-in-Net.ensures.value c.in_ok-push-in-Net.ensures.ok

pub returns-in_default-clause-value : goal.returns-in_default-clause-value
returns-in_default-clause-value c = no_net c.args.names.now c.args.sites.now c.args.name.now c.args.value.now _ _ c.known-known.ensures.kind c.in_default.not-Net

pub returns-in_ok-push-in-Net-clause-measured : goal.returns-in_ok-push-in-Net-clause-measured
returns-in_ok-push-in-Net-clause-measured c =
    measured_pushed c.args.names.now c.args.name.now.name _ _ _ _ _ _ c.known-known.ensures.kind c.in-Net.is c.known-known.ensures.width
    c.known-known.ensures.has_bit c.known-known.ensures.within c.in_ok-push-in-Net.ensures.ok

pub returns-in_ok-push-in-Net-clause-sited : goal.returns-in_ok-push-in-Net-clause-sited
returns-in_ok-push-in-Net-clause-sited c widths read =
    pushed (λ (a : TypedAssign). is_sited a.value c.args.names.now widths) _ _ _ c.in_ok-push-in-Net.ensures.ok (c.in_ok-value-in-Net.ensures.sited widths read)
