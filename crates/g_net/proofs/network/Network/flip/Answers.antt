use Rattle.std.proofs.Common.{refl, ◌∙◌}
use Rattle.g_net.specs.Views.{network_value}
use Rattle.g_net.proofs.Lines.{formed_flip, count_flip}
use Rattle.g_net.proofs.network.Network.flip.Goals as goal

pub invariant_of-self-2 : goal.invariant_of-self-2
invariant_of-self-2 c = record {
  formed = rw c.in_ok-push.ensures.ok (formed_flip (network_value c.self.inside) _ _ c.self.view_is c.self.invariant.formed c.requires.no_output c.requires.no_gate c.requires.clocked refl refl);
  next = c.in_ok-next.ensures.next ∙ count_flip (network_value c.self.inside) _ _ _ c.self.view_is c.in_ok-push.ensures.ok;
  few = c.in_ok-next.ensures.few;
}
