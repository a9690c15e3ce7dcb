-- The netlist that a proposal makes of a network.
use Rattle.std.specs.Prelude.{ℕ, ◌+◌, ◌/◌, ◌%◌, ◌^◌, ◌==◌, zero, suc, List, [], ◌∷◌, ◌++◌, length, map, slice_index, Bool, false, if◌then◌else◌, Option, None, Some}
use Rattle.g_net.specs.declared.network.Flip.{Flip}
use Rattle.g_net.specs.declared.network.Output.{Output}
use Rattle.g_net.specs.declared.network.Gate.{Gate}
use Rattle.g_net.specs.declared.network.Gate.TheVariants.{And, Xor, Carry}
use Rattle.g_net.specs.declared.proposal.Line.{Line}
use Rattle.g_net.specs.AsMachine.{port_of}
use Rattle.g_net.specs.Network.{NetworkValue, source_bits}
use Rattle.n_cells.specs.declared.netlist.Flop.{Flop}
use Rattle.n_cells.specs.declared.netlist.Stored.{Stored}
use Rattle.n_cells.specs.declared.netlist.Stored.TheVariants as stored
use Rattle.n_cells.specs.Netlist.{NetlistValue}

-- What is assembled so far: the net of each node that was visited, where it has one, the cells, and the next net.
pub record Assembled : Type 0 where
  pub nets : List ℕ
  pub cells : List Stored
  pub next : ℕ

-- the numbers from one on, so many
abbrev pub numbers : ℕ → ℕ → List ℕ
numbers from zero = []
numbers from (suc count) = from ∷ numbers (from + 1) count

-- the constant, the inputs and the flip-flops, whose nets come behind those of both constants
abbrev pub sources : NetworkValue → Assembled
sources n = record { nets = 0 ∷ numbers 2 (source_bits n); cells = []; next = 2 + source_bits n }

-- an odd literal but 1
abbrev pub is_inverted : ℕ → Bool
is_inverted literal = if literal == 1 then false else literal % 2 == 1

-- an inverter of a literal's node, where the literal is inverted
abbrev pub with_inverter : Assembled → ℕ → Assembled
with_inverter m literal =
    if is_inverted literal then record { nets = m.nets; cells = m.cells ++ stored.Lut (slice_index m.nets (literal / 2) ∷ []) 1 ∷ []; next = m.next + 1 } else m

-- the net that a literal stands for: that of a constant, of its node, or of the inverter that comes next
abbrev pub net_of : Assembled → ℕ → ℕ
net_of m literal = if literal == 1 then 1 else (if literal % 2 == 1 then m.next else slice_index m.nets (literal / 2))

-- inverters of literals in order, and the nets that the literals stand for
abbrev pub with_inverters : Assembled → List ℕ → Assembled
with_inverters m [] = m
with_inverters m (l ∷ ls) = with_inverters (with_inverter m l) ls

abbrev pub nets_of : Assembled → List ℕ → List ℕ
nets_of m [] = []
nets_of m (l ∷ ls) = net_of m l ∷ nets_of (with_inverter m l) ls

-- the line of a root
abbrev pub line_of : List Line → ℕ → Option Line
line_of [] node = None
line_of (l ∷ ls) node = if l.root == node then Some l else line_of ls node

-- a root gives a look-up table, of which the low bits alone count; another `and` or `xor` node gives nothing
abbrev pub with_root : Assembled → Option Line → Assembled
with_root m None = record { nets = m.nets ++ 0 ∷ []; cells = m.cells; next = m.next }
with_root m (Some l) = record {
  nets = m.nets ++ m.next ∷ [];
  cells = m.cells ++ stored.Lut (map (slice_index m.nets) l.leaves) (l.table % 2 ^ (2 ^ length l.leaves)) ∷ [];
  next = m.next + 1;
}

-- a carry over nets
abbrev pub with_carry : Assembled → ℕ → ℕ → ℕ → Assembled
with_carry m a b c = record { nets = m.nets ++ m.next ∷ (m.next + 1) ∷ []; cells = m.cells ++ stored.Carry a b c ∷ []; next = m.next + 2 }

-- a carry gate, of which each inverted literal gives an inverter first
abbrev pub with_sum : Assembled → ℕ → ℕ → ℕ → Assembled
with_sum m a b c =
    with_carry (with_inverters m (a ∷ b ∷ c ∷ [])) (net_of m a) (net_of (with_inverter m a) b) (net_of (with_inverter (with_inverter m a) b) c)

abbrev pub with_gate : List Line → Assembled → Gate → Assembled
with_gate lines m (And a b) = with_root m (line_of lines (length m.nets))
with_gate lines m (Xor a b) = with_root m (line_of lines (length m.nets))
with_gate lines m (Carry a b c) = with_sum m a b c

-- all nodes in order
abbrev pub with_gates : List Line → Assembled → List Gate → Assembled
with_gates lines m [] = m
with_gates lines m (g ∷ gs) = with_gates lines (with_gate lines m g) gs

-- the flip-flops, each of which may give an inverter for its data and one for its enable
abbrev pub after_flips : Assembled → List Flip → Assembled
after_flips m [] = m
after_flips m (f ∷ fs) = after_flips (with_inverter (with_inverter m f.literal) f.enable) fs

abbrev pub flops_of : Assembled → List Flip → List Flop
flops_of m [] = []
flops_of m (f ∷ fs) =
    record { first = f.first; net = net_of m f.literal; enable = net_of (with_inverter m f.literal) f.enable } ∷ flops_of (with_inverter (with_inverter m f.literal) f.enable) fs

-- the outputs, bit by bit
abbrev pub after_outputs : Assembled → List Output → Assembled
after_outputs m [] = m
after_outputs m (o ∷ os) = after_outputs (with_inverters m o.literals) os

abbrev pub output_nets : Assembled → List Output → List (List ℕ)
output_nets m [] = []
output_nets m (o ∷ os) = nets_of m o.literals ∷ output_nets (with_inverters m o.literals) os

-- the netlist behind the nodes
abbrev pub finished : NetworkValue → Assembled → NetlistValue
finished n m = record {
  name = n.name;
  clock = n.clock;
  inputs = n.inputs;
  flops = flops_of m n.flips;
  cells = (after_outputs (after_flips m n.flips) n.outputs).cells;
  outputs = map port_of n.outputs;
  nets = output_nets (after_flips m n.flips) n.outputs;
}

abbrev pub assembled : NetworkValue → List Line → NetlistValue
assembled n lines = finished n (with_gates lines (sources n) n.gates)
