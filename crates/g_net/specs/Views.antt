-- What contracts see of a network, and what it keeps.
use Rattle.std.specs.Prelude.{◌≡◌, ◌≤◌}
use Rattle.g_net.specs.declared.network.Network.TheInside as network
use Rattle.g_net.specs.Network.{NetworkValue, IsWellFormed, node_count, most_nodes}

abbrev pub network_value : network.Inside → NetworkValue
network_value n = record { name = n.name; clock = n.clock; inputs = n.inputs; flips = n.flips; gates = n.gates; outputs = n.outputs }

-- It is well formed, and `next` is the number of the node that comes next, which is not too large.
pub record IsKept (n : network.Inside) : Type 0 where
  pub formed : IsWellFormed (network_value n)
  pub next : n.next ≡ node_count (network_value n)
  pub few : n.next ≤ most_nodes
