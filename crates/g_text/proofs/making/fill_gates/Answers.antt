use Rattle.std.proofs.Common.{◌<◌, length, arith}
use Rattle.g_text.proofs.Filling.{backwards_next, gates_made}
use Rattle.g_text.proofs.making.fill_gates.Goals as goal

pub loop-gate-preserved : goal.loop-gate-preserved
loop-gate-preserved c =
    let gates = c.args.gates.now in
    let i = c.loop-gate.gate-index in
    let bound : i < length gates = omega arith in
    record {
      made = gates_made c.args.network.now c.loop-gate.network c.add.new.self gates i _ bound c.loop-gate.invariant.made c.in_ok-add.ensures.ok;
      backwards = backwards_next c.loop-gate.network c.add.new.self gates i _ bound c.in_ok-add.ensures.ok c.loop-gate.invariant.backwards;
    }
