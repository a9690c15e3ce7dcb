use Rattle.g_net.specs.Views.{network_value}
use Rattle.g_net.proofs.Lines.{formed_output}
use Rattle.g_net.proofs.network.Network.output.Goals as goal

pub invariant_of-self-2 : goal.invariant_of-self-2
invariant_of-self-2 c = record {
  formed = rw (c.in_ok-push.ensures.ok, c.in_ok-literals.ensures) (formed_output (network_value c.self.inside) _ _ c.self.view_is c.self.invariant.formed c.requires.low c.requires.high c.requires.new_name c.requires.there);
  next = c.self.invariant.next;
  few = c.self.invariant.few;
}
