-- Where a network's text breaks the rule on references: the places of its wrong literals and repeated names, in the order
-- of the text. A place is counted in bytes, from 0. A literal refers to its node, so it is wrong where it is not below
-- twice the number of the nodes that it may refer to.
use Rattle.std.specs.Prelude.{ℕ, ◌+◌, ◌*◌, List, [], ◌∷◌, ◌++◌, length, map, flat_map}
use Rattle.std.specs.Option.{option_to_list}
use Rattle.lz_lines.specs.References.{wrong_inputs, wrong_numbers, wrong_output}
use Rattle.lz_lines.specs.Shared.{clock_line, input_line}
use Rattle.g_net.specs.declared.network.Flip.{Flip}
use Rattle.g_net.specs.declared.network.Gate.{Gate}
use Rattle.g_net.specs.declared.network.Gate.TheVariants.{And, Xor, Carry}
use Rattle.g_net.specs.declared.network.Output.{Output}
use Rattle.g_net.specs.Network.{NetworkValue, first_gate, node_count, nodes_of}
use Rattle.g_text.specs.Raw.{model_line}
use Rattle.g_text.specs.Text.{flip_line, gate_line, named_line}

-- Lines of flip-flops, of which the first begins at this place: the literals stand behind `ff` and a bit, and each refers
-- to one of so many nodes.
abbrev pub wrong_flips : ℕ → ℕ → List Flip → List ℕ
wrong_flips count at_ [] = []
wrong_flips count at_ (f ∷ fs) = wrong_numbers (2 * count) (at_ + 4) (f.literal ∷ f.enable ∷ []) ++ wrong_flips count (at_ + length (flip_line f)) fs

-- The line of a gate whose first node has this number: each literal that it reads is of a smaller node.
abbrev pub wrong_gate : ℕ → ℕ → Gate → List ℕ
wrong_gate next at_ (And a b) = wrong_numbers (2 * next) (at_ + 3) (a ∷ b ∷ [])
wrong_gate next at_ (Xor a b) = wrong_numbers (2 * next) (at_ + 3) (a ∷ b ∷ [])
wrong_gate next at_ (Carry a b c) = wrong_numbers (2 * next) (at_ + 5) (a ∷ b ∷ c ∷ [])

abbrev pub wrong_gates : ℕ → ℕ → List Gate → List ℕ
wrong_gates next at_ [] = []
wrong_gates next at_ (g ∷ gs) = wrong_gate next at_ g ++ wrong_gates (next + nodes_of g) (at_ + length (gate_line g)) gs

-- Lines of outputs behind these names: each literal refers to one of so many nodes.
abbrev pub wrong_outputs : List (List ℕ) → ℕ → ℕ → List Output → List ℕ
wrong_outputs names count at_ [] = []
wrong_outputs names count at_ (o ∷ os) = wrong_output names (2 * count) at_ o.name o.literals ++ wrong_outputs (names ++ o.name ∷ []) count (at_ + length (named_line o)) os

-- the places at which the lines of each kind begin
abbrev pub inputs_at : NetworkValue → ℕ
inputs_at n = length (model_line n.name) + length (clock_line n.clock)

abbrev pub flips_at : NetworkValue → ℕ
flips_at n = inputs_at n + length (flat_map input_line n.inputs)

abbrev pub gates_at : NetworkValue → ℕ
gates_at n = flips_at n + length (flat_map flip_line n.flips)

abbrev pub outputs_at : NetworkValue → ℕ
outputs_at n = gates_at n + length (flat_map gate_line n.gates)

-- all wrong literals and repeated names
abbrev pub wrong_places : NetworkValue → List ℕ
wrong_places n =
    wrong_inputs (option_to_list n.clock) (inputs_at n) n.inputs
    ++ wrong_flips (node_count n) (flips_at n) n.flips
    ++ wrong_gates (first_gate n) (gates_at n) n.gates
    ++ wrong_outputs (option_to_list n.clock ++ map (λ p. p.name) n.inputs) (node_count n) (outputs_at n) n.outputs
