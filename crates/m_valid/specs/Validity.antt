-- When a proposal is valid for a network, and else what is the first that is wrong with it. Each check is a list that
-- tells of each line, or of each node, whether it holds there. Places of lines are numbered from 1.
use Rattle.std.specs.Prelude.{ℕ, ◌+◌, ◌/◌, ◌%◌, ◌^◌, ◌==◌, nat_le, zero, suc, List, [], ◌∷◌, ◌++◌, flat_map, length, map, Bool, true, false, not, ◌&&◌, ◌||◌, if◌then◌else◌, Option, None, Some}
use Rattle.std.specs.Bool.{xor}
use Rattle.n_cells.specs.Run.{table_bit}
use Rattle.g_net.specs.declared.network.Flip.{Flip}
use Rattle.g_net.specs.declared.network.Gate.{Gate}
use Rattle.g_net.specs.declared.network.Gate.TheVariants as gate
use Rattle.g_net.specs.declared.network.Output.{Output}
use Rattle.g_net.specs.declared.proposal.Line.{Line}
use Rattle.g_net.specs.Network.{NetworkValue}
use Rattle.m_valid.specs.declared.nodes.Node.{Node}
use Rattle.m_valid.specs.declared.nodes.Node.TheVariants.{Constant, Source, And, Xor}
use Rattle.m_valid.specs.declared.verdict.Check.{Check}
use Rattle.m_valid.specs.declared.verdict.Check.TheVariants.{V1, V2, V3, V4, V5}
use Rattle.m_valid.specs.declared.verdict.Verdict.{Verdict}
use Rattle.m_valid.specs.declared.verdict.Verdict.TheVariants.{Valid, Broken}
use Rattle.m_valid.specs.Nodes.{nodes_of, node_at, is_gate, is_source}

abbrev pub is_among : ℕ → List ℕ → Bool
is_among number [] = false
is_among number (n ∷ ns) = (n == number) || is_among number ns

-- V1: roots strictly increase and are `and` or `xor` nodes. The first of these lines has a root of at least `least`.
abbrev pub roots_hold : List Node → ℕ → List Line → List Bool
roots_hold nodes least [] = []
roots_hold nodes least (l ∷ ls) = (nat_le least l.root && is_gate (node_at nodes l.root)) ∷ roots_hold nodes (l.root + 1) ls

-- the leaves strictly increase, from `least` on, and are smaller than the root
abbrev pub increase : ℕ → List ℕ → ℕ → Bool
increase least [] root = nat_le least root
increase least (leaf ∷ leaves) root = nat_le least leaf && increase (leaf + 1) leaves root

-- each is an input, a flip-flop, a node of a carry, or one of these roots
abbrev pub may_be_leaves : List Node → List ℕ → List ℕ → Bool
may_be_leaves nodes roots [] = true
may_be_leaves nodes roots (leaf ∷ leaves) = (is_source (node_at nodes leaf) || is_among leaf roots) && may_be_leaves nodes roots leaves

-- a line behind lines with these roots has at most `most` leaves, which strictly increase, are smaller than its root, and
-- may be leaves
abbrev pub has_leaves : List Node → ℕ → List ℕ → Line → Bool
has_leaves nodes most roots l = nat_le (length l.leaves) most && increase 0 l.leaves l.root && may_be_leaves nodes roots l.leaves

-- V2: so it is at each line, where those before have these roots
abbrev pub leaves_hold : List Node → ℕ → List ℕ → List Line → List Bool
leaves_hold nodes most roots [] = []
leaves_hold nodes most roots (l ∷ ls) = has_leaves nodes most roots l ∷ leaves_hold nodes most (roots ++ l.root ∷ []) ls

-- at a node that is no leaf a way ends at the constant, and goes on to both operands of an `and` or `xor`
abbrev pub goes_down : (ℕ → Bool) → Node → Bool
goes_down ends Constant = true
goes_down ends Source = false
goes_down ends (And a b) = ends (a / 2) && ends (b / 2)
goes_down ends (Xor a b) = ends (a / 2) && ends (b / 2)

-- Going down from a node over `and` and `xor` nodes, in fewer than so many steps, every way meets a leaf or the constant
-- before any other source.
unfoldable pub ends_in : List Node → List ℕ → ℕ → ℕ → Bool
ends_in nodes leaves zero number = false
ends_in nodes leaves (suc steps) number = is_among number leaves || goes_down (ends_in nodes leaves steps) (node_at nodes number)

-- Each step goes to a smaller number, so a way has fewer steps than this.
abbrev pub steps_from : ℕ → ℕ
steps_from number = number + 1

-- a line's ways down from its root
abbrev pub is_covered : List Node → Line → Bool
is_covered nodes l = ends_in nodes l.leaves (steps_from l.root) l.root

-- V3: so it is at each line
abbrev pub cones_hold : List Node → List Line → List Bool
cones_hold nodes lines = map (is_covered nodes) lines

-- the value of a literal, which is that of its node or, where the literal is odd, the inverse
abbrev pub literal_of : (ℕ → Bool) → ℕ → Bool
literal_of value literal = xor (literal % 2 == 1) (value (literal / 2))

-- the value of a node that is no leaf: the constant is 0, an `and` or `xor` has the operation over its operands
abbrev pub operation : (ℕ → Bool) → Node → Bool
operation value Constant = false
operation value Source = false
operation value (And a b) = literal_of value a && literal_of value b
operation value (Xor a b) = xor (literal_of value a) (literal_of value b)

-- the bit that a leaf has in an assignment, which is a number whose bit j is that of leaf j
abbrev pub assigned : List ℕ → ℕ → ℕ → Option Bool
assigned [] assignment number = None
assigned (leaf ∷ leaves) assignment number = if leaf == number then Some (assignment % 2 == 1) else assigned leaves (assignment / 2) number

abbrev pub or_else : Option Bool → Bool → Bool
or_else None bit = bit
or_else (Some assigned) bit = assigned

-- The value of a node over its cone: a leaf has its assigned bit, any other node its operation.
unfoldable pub cone_value : List Node → (ℕ → Option Bool) → ℕ → ℕ → Bool
cone_value nodes bits zero number = false
cone_value nodes bits (suc steps) number = or_else (bits number) (operation (cone_value nodes bits steps) (node_at nodes number))

-- the value of a line's root where the leaves have this assignment
abbrev pub root_value : List Node → Line → ℕ → Bool
root_value nodes l assignment = cone_value nodes (assigned l.leaves assignment) (steps_from l.root) l.root

abbrev pub same : Bool → Bool → Bool
same true bit = bit
same false bit = not bit

-- the same bits at each of so many assignments
unfoldable pub agree : ℕ → (ℕ → Bool) → (ℕ → Bool) → Bool
agree zero f g = true
agree (suc n) f g = same (f n) (g n) && agree n f g

-- the table's bits are the root's values
abbrev pub has_table : List Node → Line → Bool
has_table nodes l = agree (2 ^ length l.leaves) (root_value nodes l) (table_bit l.table)

-- V4: so it is at each line
abbrev pub tables_hold : List Node → List Line → List Bool
tables_hold nodes lines = map (has_table nodes) lines

abbrev pub half : ℕ → ℕ
half literal = literal / 2

-- the nodes that outputs, flip-flops, by their data and their enable, and carries use
abbrev pub output_uses : Output → List ℕ
output_uses o = map half o.literals

abbrev pub flip_uses : Flip → List ℕ
flip_uses f = half f.literal ∷ half f.enable ∷ []

abbrev pub carry_uses : Gate → List ℕ
carry_uses (gate.And a b) = []
carry_uses (gate.Xor a b) = []
carry_uses (gate.Carry a b c) = half a ∷ half b ∷ half c ∷ []

abbrev pub uses_of : NetworkValue → List ℕ
uses_of n = flat_map output_uses n.outputs ++ flat_map flip_uses n.flips ++ flat_map carry_uses n.gates

-- an `and` or `xor` node that is used is a root
abbrev pub is_met : List ℕ → List ℕ → ℕ → Node → Bool
is_met uses roots number x = if is_gate x && is_among number uses then is_among number roots else true

-- V5: so it is at each node, where the first of these has this number
abbrev pub needs_hold : List ℕ → List ℕ → ℕ → List Node → List Bool
needs_hold uses roots number [] = []
needs_hold uses roots number (x ∷ xs) = is_met uses roots number x ∷ needs_hold uses roots (number + 1) xs

abbrev pub roots_of : List Line → List ℕ
roots_of lines = map (λ l. l.root) lines

-- the least place at which a check does not hold, where the first one is numbered so
abbrev pub first_broken : ℕ → List Bool → Option ℕ
first_broken place [] = None
first_broken place (holds ∷ more) = if holds then first_broken (place + 1) more else Some place

-- a check that is broken at a place, and else the checks behind it
abbrev pub judged : Check → Option ℕ → Verdict → Verdict
judged check None later = later
judged check (Some place) later = Broken check place

-- V3 and V4
abbrev pub cones_verdict : List Node → List Line → Verdict → Verdict
cones_verdict nodes lines later = judged V3 (first_broken 1 (cones_hold nodes lines)) (judged V4 (first_broken 1 (tables_hold nodes lines)) later)

-- V1 to V4
abbrev pub lines_verdict : List Node → List Line → ℕ → Verdict → Verdict
lines_verdict nodes lines most later =
    judged V1 (first_broken 1 (roots_hold nodes 0 lines)) (judged V2 (first_broken 1 (leaves_hold nodes most [] lines)) (cones_verdict nodes lines later))

-- The verdict on a proposal with these lines, for at most so many leaves: the first check that is broken, at its least
-- place.
abbrev pub verdict : NetworkValue → List Line → ℕ → Verdict
verdict n lines most = lines_verdict (nodes_of n) lines most (judged V5 (first_broken 0 (needs_hold (uses_of n) (roots_of lines) 0 (nodes_of n))) Valid)
