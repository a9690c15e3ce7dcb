use Rattle.std.proofs.Common.{◌≤◌, ℕ, ◌+◌, refl, sym, ap, subst, ◌∙◌}
use Rattle.g_net.specs.Network.{most_nodes, nodes_of}
use Rattle.g_net.specs.Views.{network_value}
use Rattle.g_net.proofs.Lines.{formed_gate, count_gate}
use Rattle.g_net.proofs.Valuation.{added_stands, added_place, added_keeps}
use Rattle.g_net.proofs.network.Network.add.Goals as goal

pub invariant_of-self-2 : goal.invariant_of-self-2
invariant_of-self-2 c = record {
  formed = rw c.in_ok-push.ensures.ok (formed_gate (network_value c.self.inside) _ _ c.self.view_is c.self.invariant.formed c.requires.no_output c.requires.there);
  next = c.in_ok-next.ensures.next ∙ count_gate (network_value c.self.inside) _ _ c.args.gate _ c.self.view_is c.in_ok-push.ensures.ok c.nodes_of.ensures;
  few = c.in_ok-next.ensures.few;
}

pub returns-clause-value : goal.returns-clause-value
returns-clause-value c =
    added_stands (network_value c.self.inside) _ _ _ _ c.self.view_is c.in_ok-push.ensures.ok c.node_count-node.ensures.count c.self.invariant.formed c.requires.no_output c.requires.there

pub returns-clause-keeps : goal.returns-clause-keeps
returns-clause-keeps c = added_keeps (network_value c.self.inside) _ _ c.args.gate c.self.view_is c.in_ok-push.ensures.ok

pub returns-clause-place : goal.returns-clause-place
returns-clause-place c = added_place (network_value c.self.inside) _ _ c.args.gate _ c.self.view_is c.in_ok-push.ensures.ok c.node_count-node.ensures.count

pub returns-clause-count : goal.returns-clause-count
returns-clause-count c = sym (count_gate (network_value c.self.inside) _ _ c.args.gate _ c.self.view_is c.in_ok-push.ensures.ok refl) ∙ ap (λ (k : ℕ). k + nodes_of c.args.gate) (sym c.node_count-node.ensures.count)

pub returns-clause-few : goal.returns-clause-few
returns-clause-few c =
    subst (λ k. k ≤ most_nodes) (c.in_ok-next.ensures.next ∙ count_gate (network_value c.self.inside) _ _ c.args.gate _ c.self.view_is c.in_ok-push.ensures.ok c.nodes_of.ensures) c.in_ok-next.ensures.few

pub returns-clause-formed : goal.returns-clause-formed
returns-clause-formed c = rw c.in_ok-push.ensures.ok (formed_gate (network_value c.self.inside) _ _ c.self.view_is c.self.invariant.formed c.requires.no_output c.requires.there)
