use Rattle.std.proofs.Common.{◌<◌, length, arith, refl}
use Rattle.v_syntax.specs.Small.{port_names}
use Rattle.v_small.proofs.PortNames.{ports_in_order, found_at, not_yet}
use Rattle.v_small.proofs.names.is_port.Goals as goal

pub returns-then-is_named : goal.returns-then-is_named
returns-then-is_named c =
    let within : c.loop-port.port-index < length c.args.ports.now = omega arith in
    (λ h. found_at port_names ports_in_order c.args.ports.now c.loop-port.port-index c.port-item.result within c.port-item.is c.args.name.now (c.is_named.ensures.0 c.if-is_named.true), λ h. refl)

pub loop-port-preserved : goal.loop-port-preserved
loop-port-preserved c =
    let within : c.loop-port.port-index < length c.args.ports.now = omega arith in
    not_yet port_names ports_in_order c.args.ports.now c.loop-port.port-index c.port-item.result within c.port-item.is c.args.name.now c.loop-port.invariant (λ h. absurd (cc (c.is_named.ensures.1 h, c.if-is_named.false)))
