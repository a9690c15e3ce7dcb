use Rattle.std.proofs.Common.{◌<◌, length, arith}
use Rattle.std.proofs.lemmas.Grind.{common_steps}
use Rattle.lz_base.proofs.Lists.{item_there}
use Rattle.lz_lines.proofs.Listed.{each_next}
use Rattle.lz_lines.proofs.shared.push_inputs.Goals as goal

pub loop-port-preserved : goal.loop-port-preserved
loop-port-preserved c =
    let within : c.loop-port.port-index < length c.args.ports.now = omega arith in
    record {
      text = grind (arith, common_steps);
      named = each_next _ c.args.ports.now c.loop-port.port-index _ c.loop-port.invariant.named (item_there _ _ _ within c.port-item.is) c.in_ok-push_input.ensures.named;
    }
