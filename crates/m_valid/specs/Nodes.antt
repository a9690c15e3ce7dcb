-- The nodes of a network one by one, as a proposal is judged by them.
use Rattle.std.specs.Prelude.{ℕ, ◌/◌, ◌<◌, List, [], ◌∷◌, ◌++◌, flat_map, replicate, slice_index_or, Bool, true, false, ⊤}
use Rattle.lz_base.specs.declared.name.Port.{Port}
use Rattle.g_net.specs.declared.network.Flip.{Flip}
use Rattle.g_net.specs.declared.network.Gate.{Gate}
use Rattle.g_net.specs.declared.network.Gate.TheVariants as gate
use Rattle.g_net.specs.Network.{NetworkValue}
use Rattle.m_valid.specs.declared.nodes.Node.{Node}
use Rattle.m_valid.specs.declared.nodes.Node.TheVariants.{Constant, Source, And, Xor}

-- each bit of an input
abbrev pub input_nodes : Port → List Node
input_nodes p = replicate p.width Source

-- a flip-flop
abbrev pub flip_nodes : Flip → List Node
flip_nodes f = Source ∷ []

-- a gate, of which both nodes of a carry are sources
abbrev pub gate_nodes : Gate → List Node
gate_nodes (gate.And a b) = And a b ∷ []
gate_nodes (gate.Xor a b) = Xor a b ∷ []
gate_nodes (gate.Carry a b c) = Source ∷ Source ∷ []

-- all nodes, in the order of their numbers
abbrev pub nodes_of : NetworkValue → List Node
nodes_of n = Constant ∷ flat_map input_nodes n.inputs ++ flat_map flip_nodes n.flips ++ flat_map gate_nodes n.gates

-- The node of a number. A number of no node is read as the constant, which is no root and no leaf.
abbrev pub node_at : List Node → ℕ → Node
node_at nodes number = slice_index_or nodes number Constant

-- an `and` or `xor` node
abbrev pub is_gate : Node → Bool
is_gate Constant = false
is_gate Source = false
is_gate (And a b) = true
is_gate (Xor a b) = true

-- an input, a flip-flop or a node of a carry
abbrev pub is_source : Node → Bool
is_source Constant = false
is_source Source = true
is_source (And a b) = false
is_source (Xor a b) = false

-- the operands of a node of this number come before it
abbrev pub ReadsBefore : ℕ → Node → Type 0
ReadsBefore number Constant = ⊤
ReadsBefore number Source = ⊤
ReadsBefore number (And a b) = (a / 2 < number) × (b / 2 < number)
ReadsBefore number (Xor a b) = (a / 2 < number) × (b / 2 < number)

-- each node's operands come before it
abbrev pub AllReadBefore : List Node → Type 0
AllReadBefore nodes = (number : ℕ) → ReadsBefore number (node_at nodes number)
