-- The values of a network's nodes, one after another in the order of their numbers. Builders of networks reason by them.
use Rattle.std.specs.Prelude.{ℕ, ◌+◌, List, [], ◌∷◌, ◌++◌, take, Bool, false, ◌&&◌}
use Rattle.std.specs.Bool.{xor}
use Rattle.lz_circuit.specs.Values.{majority}
use Rattle.g_net.specs.declared.network.Gate.{Gate}
use Rattle.g_net.specs.declared.network.Gate.TheVariants.{And, Xor, Carry}
use Rattle.g_net.specs.Network.{NetworkValue, first_gate, gate_nodes}
use Rattle.g_net.specs.Run.{literal_value}

-- the values that a gate adds behind those that it reads
abbrev pub gate_values : List Bool → Gate → List Bool
gate_values values (And a b) = (literal_value values a && literal_value values b) ∷ []
gate_values values (Xor a b) = xor (literal_value values a) (literal_value values b) ∷ []
gate_values values (Carry a b c) =
    xor (literal_value values a) (xor (literal_value values b) (literal_value values c)) ∷ majority (literal_value values a) (literal_value values b) (literal_value values c) ∷ []

-- the values before the gates, and behind them those of each gate in turn
unfoldable pub all_values : List Bool → List Gate → List Bool
all_values values [] = values
all_values values (g ∷ gs) = all_values (values ++ gate_values values g) gs

-- The values of all nodes, for the bits of the inputs and behind them those of the flip-flops.
abbrev pub values_of : NetworkValue → List Bool → List Bool
values_of n sources = all_values (false ∷ sources) n.gates

-- the number of the first node of the gate of this index, from 0
abbrev pub node_of : NetworkValue → ℕ → ℕ
node_of n index = first_gate n + gate_nodes (take index n.gates)
