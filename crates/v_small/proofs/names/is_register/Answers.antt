use Rattle.std.proofs.Common.{◌<◌, length, arith, refl}
use Rattle.v_syntax.specs.Small.{register_names}
use Rattle.v_small.proofs.PortNames.{registers_in_order, found_at, not_yet}
use Rattle.v_small.proofs.names.is_register.Goals as goal

pub returns-then-is_register_of : goal.returns-then-is_register_of
returns-then-is_register_of c =
    let within : c.loop-port.port-index < length c.args.ports.now = omega arith in
    (λ h. found_at register_names registers_in_order c.args.ports.now c.loop-port.port-index c.port-item.result within c.port-item.is c.args.name.now (c.is_register_of.ensures.0 c.if-is_register_of.true), λ h. refl)

pub loop-port-preserved : goal.loop-port-preserved
loop-port-preserved c =
    let within : c.loop-port.port-index < length c.args.ports.now = omega arith in
    not_yet register_names registers_in_order c.args.ports.now c.loop-port.port-index c.port-item.result within c.port-item.is c.args.name.now c.loop-port.invariant (λ h. absurd (cc (c.is_register_of.ensures.1 h, c.if-is_register_of.false)))
