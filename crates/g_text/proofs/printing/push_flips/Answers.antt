use Rattle.std.proofs.Common.{◌<◌, length, arith}
use Rattle.std.proofs.lemmas.Grind.{common_steps}
use Rattle.lz_lines.proofs.Listed.{each_at}
use Rattle.g_text.specs.Form.{IsFlip}
use Rattle.g_text.proofs.printing.push_flips.Goals as goal

pub loop-flip-preserved : goal.loop-flip-preserved
loop-flip-preserved c =
    let within : c.loop-flip.flip-index < length c.args.flips.now = omega arith in
    record {
      text = grind (arith, common_steps);
      small = each_at IsFlip c.args.flips.now c.loop-flip.flip-index _ c.loop-flip.invariant.small within c.in_ok-push_flip.ensures.small;
    }
