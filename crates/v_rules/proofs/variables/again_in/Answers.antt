use Rattle.v_rules.proofs.Gathered.{targets_are}
use Rattle.v_rules.proofs.Written.{again_step}
use Rattle.v_rules.proofs.variables.again_in.Goals as goal

pub returns : goal.returns
returns c before met =
    again_step before c.args.process.now _ _ _ _ _ _ _ c.as_slice.ensures (targets_are _ _ c.in_ok-written.ensures) c.deref.ensures.value c.deref-2.ensures.value (c.first_met-more.ensures before met) (c.in_ok-meet_each.ensures before met)
