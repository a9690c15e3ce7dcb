use Rattle.std.proofs.Common.{◌<◌, length, arith}
use Rattle.s_flow.proofs.Fitting.{width_there, fit_next, zero_fits}
use Rattle.s_flow.proofs.simulating.zeros.Goals as goal

pub new-requires-clause-has_bit : goal.new-requires-clause-has_bit
new-requires-clause-has_bit c =
    let within : c.loop-port.port-index < length c.args.ports.now = omega arith in
    (width_there c.args.ports.now c.loop-port.port-index c.port-item.result c.requires within c.port-item.is).0

pub new-requires-clause-within : goal.new-requires-clause-within
new-requires-clause-within c =
    let within : c.loop-port.port-index < length c.args.ports.now = omega arith in
    (width_there c.args.ports.now c.loop-port.port-index c.port-item.result c.requires within c.port-item.is).1

pub loop-port-preserved : goal.loop-port-preserved
loop-port-preserved c =
    let within : c.loop-port.port-index < length c.args.ports.now = omega arith in
    let fits = zero_fits c.new.result c.port-item.result.width c.new.ensures in
    rw c.in_ok-push.ensures.items (fit_next c.args.ports.now c.loop-port.port-index c.loop-port.words.items c.port-item.result c.new.result within c.port-item.is c.loop-port.invariant fits.0 fits.1)
