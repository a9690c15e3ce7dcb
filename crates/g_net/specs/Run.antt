-- What a network does in a cycle.
use Rattle.std.specs.Prelude.{◌≡◌, ℕ, ◌+◌, ◌/◌, ◌%◌, List, [], ◌∷◌, ◌++◌, length, map, take, ⊤, Bool, false, ◌==◌, ◌&&◌, if◌then◌else◌}
use Rattle.std.specs.Bool.{xor}
use Rattle.std.specs.Simd.Lanes.{zip2}
use Rattle.lz_base.specs.Bits.{word_of, words_bits}
use Rattle.lz_base.specs.WordValue.{WordValue}
use Rattle.lz_circuit.specs.Values.{value_at, majority}
use Rattle.g_net.specs.declared.network.Flip.{Flip}
use Rattle.g_net.specs.declared.network.Gate.{Gate}
use Rattle.g_net.specs.declared.network.Gate.TheVariants.{And, Xor, Carry}
use Rattle.g_net.specs.Network.{NetworkValue, nodes_of, node_count, first_gate}

-- the value of a literal, for the values of all nodes: that of its node, and where the literal is odd the inverse
abbrev pub literal_value : List Bool → ℕ → Bool
literal_value values literal = xor (literal % 2 == 1) (value_at values (literal / 2))

-- The equation of a gate whose first node has this number. A carry gate shows the exclusive or, and on its second node
-- the majority, of its three literals.
abbrev pub GateHolds : List Bool → ℕ → Gate → Type 0
GateHolds values node (And a b) = value_at values node ≡ (literal_value values a && literal_value values b)
GateHolds values node (Xor a b) = value_at values node ≡ xor (literal_value values a) (literal_value values b)
GateHolds values node (Carry a b c) =
    (value_at values node ≡ xor (literal_value values a) (xor (literal_value values b) (literal_value values c)))
    × (value_at values (node + 1) ≡ majority (literal_value values a) (literal_value values b) (literal_value values c))

-- each gate's equation holds, where the first gate's first node has this number
abbrev pub GatesHold : List Bool → ℕ → List Gate → Type 0
GatesHold values next [] = ⊤
GatesHold values next (g ∷ gs) = GateHolds values next g × GatesHold values (next + nodes_of g) gs

-- The values of all nodes in a cycle, for the words at the inputs and the bits in the flip-flops: node 0 is 0, then come
-- the bits of the inputs, the flip-flops, and the nodes of the gates, which satisfy every equation.
pub record IsValuation (n : NetworkValue) (inputs : List WordValue) (state values : List Bool) : Type 0 where
  pub count : length values ≡ node_count n
  pub front : take (first_gate n) values ≡ false ∷ words_bits inputs ++ state
  pub gates : GatesHold values (first_gate n) n.gates

-- the words at the outputs
abbrev pub shown : NetworkValue → List Bool → List WordValue
shown n values = map (λ o. word_of (map (literal_value values) o.literals)) n.outputs

-- What flip-flops with these bits hold behind the edge: the value of the literal where the enable's is 1, and else the
-- bit.
abbrev pub after_edge : List Bool → List Flip → List Bool → List Bool
after_edge values flips bits = zip2 (λ f bit. if literal_value values f.enable then literal_value values f.literal else bit) flips bits

-- the bits in the flip-flops behind the edge, where these are the bits before it and the values of the nodes
abbrev pub next_state : NetworkValue → List Bool → List Bool → List Bool
next_state n state values = after_edge values n.flips state

-- what the flip-flops hold at first
abbrev pub first_state : NetworkValue → List Bool
first_state n = map (λ f. f.first) n.flips
