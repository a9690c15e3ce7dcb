use Rattle.std.proofs.Common.{◌<◌, length, arith}
use Rattle.std.proofs.lemmas.Grind.{common_steps}
use Rattle.lz_lines.proofs.Listed.{each_at}
use Rattle.g_text.specs.Form.{IsGate}
use Rattle.g_text.proofs.printing.push_gates.Goals as goal

pub loop-gate-preserved : goal.loop-gate-preserved
loop-gate-preserved c =
    let within : c.loop-gate.gate-index < length c.args.gates.now = omega arith in
    record {
      text = grind (arith, common_steps);
      small = each_at IsGate c.args.gates.now c.loop-gate.gate-index _ c.loop-gate.invariant.small within c.in_ok-push_gate.ensures.small;
    }
