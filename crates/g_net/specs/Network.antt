-- What a network is, and when it is well formed.
use Rattle.std.specs.Prelude.{ℕ, ◌+◌, ◌/◌, ◌^◌, ◌<◌, ◌≤◌, List, [], ◌∷◌, ◌++◌, length, map, slice_index, zero, suc, Option, ⊤}
use Rattle.std.specs.Option.{option_to_list}
use Rattle.lz_base.specs.declared.name.Port.{Port}
use Rattle.lz_base.specs.Names.{AreDistinct}
use Rattle.lz_circuit.specs.Lines.{port_bits, HaveWidths, HasClock}
use Rattle.g_net.specs.declared.network.Flip.{Flip}
use Rattle.g_net.specs.declared.network.Gate.{Gate}
use Rattle.g_net.specs.declared.network.Gate.TheVariants.{And, Xor, Carry}
use Rattle.g_net.specs.declared.network.Output.{Output}

-- A network, line by line. Each output has its name and its literals, bit 0 first.
pub record NetworkValue : Type 0 where
  pub name : List ℕ
  pub clock : Option (List ℕ)
  pub inputs : List Port
  pub flips : List Flip
  pub gates : List Gate
  pub outputs : List Output

-- how many nodes a gate makes
abbrev pub nodes_of : Gate → ℕ
nodes_of (And a b) = 1
nodes_of (Xor a b) = 1
nodes_of (Carry a b c) = 2

-- how many nodes the gates make together
abbrev pub gate_nodes : List Gate → ℕ
gate_nodes [] = 0
gate_nodes (g ∷ gs) = nodes_of g + gate_nodes gs

-- how many bits the inputs and the flip-flops have together, each of which is a node
abbrev pub source_bits : NetworkValue → ℕ
source_bits n = port_bits n.inputs + length n.flips

-- the number of the first node behind the constant, the inputs and the flip-flops
abbrev pub first_gate : NetworkValue → ℕ
first_gate n = 1 + source_bits n

-- the number of all nodes
abbrev pub node_count : NetworkValue → ℕ
node_count n = first_gate n + gate_nodes n.gates

-- a network has no more nodes than this, which are more than fit into any memory
abbrev pub most_nodes : ℕ
most_nodes = 2 ^ 72

-- the nodes of all literals are below
abbrev pub LiteralsBelow : ℕ → List ℕ → Type 0
LiteralsBelow count literals = (k : ℕ) → k < length literals → slice_index literals k / 2 < count

-- the nodes of the literals that a gate reads are below
abbrev pub ReadsBelow : ℕ → Gate → Type 0
ReadsBelow count (And a b) = (a / 2 < count) × (b / 2 < count)
ReadsBelow count (Xor a b) = (a / 2 < count) × (b / 2 < count)
ReadsBelow count (Carry a b c) = (a / 2 < count) × (b / 2 < count) × (c / 2 < count)

-- each gate reads nodes that come before its own first node, where the first gate's first node has this number
abbrev pub ReadBackwards : ℕ → List Gate → Type 0
ReadBackwards next [] = ⊤
ReadBackwards next (g ∷ gs) = ReadsBelow next g × ReadBackwards (next + nodes_of g) gs

-- outputs of 1 to 128 literals
abbrev pub HaveLiterals : List Output → Type 0
HaveLiterals [] = ⊤
HaveLiterals (o ∷ os) = (1 ≤ length o.literals) × (length o.literals ≤ 128) × HaveLiterals os

-- the literals of all outputs are there
abbrev pub OutputsBelow : ℕ → List Output → Type 0
OutputsBelow count [] = ⊤
OutputsBelow count (o ∷ os) = LiteralsBelow count o.literals × OutputsBelow count os

-- the literals and the enables of the flip-flops are there
abbrev pub FlipsBelow : ℕ → List Flip → Type 0
FlipsBelow count [] = ⊤
FlipsBelow count (f ∷ fs) = (f.literal / 2 < count) × (f.enable / 2 < count) × FlipsBelow count fs

-- the flip-flops, where the one of this index, from 0, has this literal and this enable
abbrev pub with_literals : List Flip → ℕ → ℕ → ℕ → List Flip
with_literals [] index literal enable = []
with_literals (f ∷ fs) zero literal enable = record { first = f.first; literal = literal; enable = enable } ∷ fs
with_literals (f ∷ fs) (suc index) literal enable = f ∷ with_literals fs index literal enable

-- the names of the clock, the inputs and the outputs
abbrev pub names_of : NetworkValue → List (List ℕ)
names_of n = option_to_list n.clock ++ map (λ p. p.name) n.inputs ++ map (λ o. o.name) n.outputs

-- The lines and fields are those of the grammar, whatever the literals refer to.
pub record HasLines (n : NetworkValue) : Type 0 where
  pub inputs : HaveWidths n.inputs
  pub clocked : HasClock n.clock n.flips
  pub outputs : HaveLiterals n.outputs

-- A network that is well formed: names are distinct, and the nodes of all literals are there, those of a gate before it.
pub record IsWellFormed (n : NetworkValue) : Type 0 where
  pub lines : HasLines n
  pub names : AreDistinct (names_of n)
  pub flips : FlipsBelow (node_count n) n.flips
  pub gates : ReadBackwards (first_gate n) n.gates
  pub outputs : OutputsBelow (node_count n) n.outputs
