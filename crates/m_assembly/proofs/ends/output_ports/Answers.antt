use Rattle.g_net.specs.AsMachine.{port_of}
use Rattle.m_assembly.proofs.Nexts.{reading_more}
use Rattle.m_assembly.proofs.ends.output_ports.Goals as goal

pub loop-i-preserved : goal.loop-i-preserved
loop-i-preserved c = reading_more port_of c.args.network.now.outputs c.loop-i.i _ _ _ _ c.in_ok-port.ensures c.in_ok-push.ensures.ok c.loop-i.invariant
