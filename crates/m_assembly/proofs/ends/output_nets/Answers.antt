use Rattle.m_assembly.proofs.Outputs.{after_next, nets_next}
use Rattle.m_assembly.proofs.ends.output_nets.Goals as goal

pub loop-i-preserved : goal.loop-i-preserved
loop-i-preserved c = record {
  made = after_next _ _ _ c.args.network.now.outputs c.loop-i.i _ c.output_literals.ensures.literals c.in_ok-nets.ensures.made c.loop-i.invariant.made;
  nets = nets_next _ _ c.args.network.now.outputs c.loop-i.i _ _ _ _ _ c.output_literals.ensures.literals c.in_ok-nets.ensures.made c.in_ok-nets.ensures.nets c.in_ok-push.ensures.ok c.loop-i.invariant.nets;
}
