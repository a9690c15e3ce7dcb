use Rattle.std.proofs.Common.{◌∙◌}
use Rattle.g_net.specs.Views.{network_value}
use Rattle.g_net.proofs.Lines.{formed_set, set_is, set_whole, count_set}
use Rattle.g_net.proofs.network.Network.set_flip.Goals as goal

pub invariant_of-self : goal.invariant_of-self
invariant_of-self c =
    let is = set_is c.self.inside.flips _ _ c.args.index c.args.literal c.args.enable _ c.as_slice-flips.ensures c.set.ensures in
    record {
      formed = rw is (formed_set (network_value c.self.inside) _ c.args.index c.args.literal c.args.enable c.self.view_is c.self.invariant.formed c.requires.literal c.requires.enable);
      next = c.self.invariant.next ∙ count_set (network_value c.self.inside) _ c.args.index c.args.literal c.args.enable is;
      few = c.self.invariant.few;
    }

pub returns : goal.returns
returns c =
    set_whole (network_value c.self.inside) _ _ c.args.index c.args.literal c.args.enable c.self.view_is (
    set_is c.self.inside.flips _ _ c.args.index c.args.literal c.args.enable _ c.as_slice-flips.ensures c.set.ensures)
