-- The plain mapping of a network: a look-up table for each of its `and` and `xor` nodes.
use Rattle.std.specs.Prelude.{ℕ, ◌+◌, ◌/◌, ◌^◌, ◌==◌, min, max, zero, suc, List, [], ◌∷◌, ◌++◌, length, Bool, false, if◌then◌else◌}
use Rattle.g_net.specs.declared.proposal.Line.{Line}
use Rattle.g_net.specs.Network.{NetworkValue}
use Rattle.m_valid.specs.declared.nodes.Node.{Node}
use Rattle.m_valid.specs.declared.nodes.Node.TheVariants.{Constant, Source, And, Xor}
use Rattle.m_valid.specs.Nodes.{nodes_of}
use Rattle.m_valid.specs.Validity.{assigned, operation, or_else}

-- a node, but for the constant
abbrev pub but_constant : ℕ → List ℕ
but_constant node = if node == 0 then [] else node ∷ []

-- the distinct nodes of two, but for the constant, in ascending order
abbrev pub ascending : ℕ → ℕ → List ℕ
ascending x y = but_constant (min x y) ++ (if x == y then [] else but_constant (max x y))

-- the number of so many bits
unfoldable pub table_from : ℕ → (ℕ → Bool) → ℕ
table_from zero bits = 0
table_from (suc n) bits = table_from n bits + (if bits n then 2 ^ n else 0)

-- the bit of a leaf in an assignment, and of the constant
abbrev pub leaf_bit : List ℕ → ℕ → ℕ → Bool
leaf_bit leaves assignment node = or_else (assigned leaves assignment node) false

-- the line of a gate over these leaves, with its value at each assignment
abbrev pub gate_line : ℕ → List ℕ → Node → Line
gate_line root leaves gate = record { root = root; leaves = leaves; table = table_from (2 ^ length leaves) (λ i. operation (leaf_bit leaves i) gate) }

-- the line of a node, where it is an `and` or `xor`
abbrev pub plain_line : ℕ → Node → List Line
plain_line number Constant = []
plain_line number Source = []
plain_line number (And a b) = gate_line number (ascending (a / 2) (b / 2)) (And a b) ∷ []
plain_line number (Xor a b) = gate_line number (ascending (a / 2) (b / 2)) (Xor a b) ∷ []

-- the lines of nodes, of which the first has this number
abbrev pub plain_lines : ℕ → List Node → List Line
plain_lines number [] = []
plain_lines number (x ∷ xs) = plain_line number x ++ plain_lines (number + 1) xs

abbrev pub plain_of : NetworkValue → List Line
plain_of n = plain_lines 0 (nodes_of n)
