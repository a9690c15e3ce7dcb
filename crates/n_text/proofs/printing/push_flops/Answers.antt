use Rattle.std.proofs.Common.{◌<◌, length, arith}
use Rattle.std.proofs.lemmas.Grind.{common_steps}
use Rattle.n_text.proofs.Forming.{flops_next}
use Rattle.n_text.proofs.printing.push_flops.Goals as goal

pub loop-flop-preserved : goal.loop-flop-preserved
loop-flop-preserved c =
    let within : c.loop-flop.flop-index < length c.args.flops.now = omega arith in
    record {
      text = grind (arith, common_steps);
      below = flops_next _ c.args.flops.now c.loop-flop.flop-index _ c.loop-flop.invariant.below within c.in_ok-push_flop.ensures.below c.in_ok-push_flop.ensures.enable;
    }
