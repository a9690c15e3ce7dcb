-- What a walk over a cone knows: tables of 64 bits, bit i of which is a node's value at assignment i of the leaves.
use Rattle.std.specs.Prelude.{◌≡◌, ℕ, ◌+◌, ◌-◌, ◌*◌, ◌/◌, ◌%◌, ◌^◌, ◌<◌, ◌≤◌, ◌==◌, ◌⊎◌, List, [], ◌∷◌, length, slice_index, slice_index_or, Bool, true, false, ◌&&◌, if◌then◌else◌, Option, None, Some}
use Rattle.std.specs.Bool.{xor}
use Rattle.n_cells.specs.Run.{table_bit}
use Rattle.g_net.specs.declared.network.Gate.{Gate}
use Rattle.g_net.specs.declared.network.Gate.TheVariants as gate
use Rattle.g_net.specs.declared.proposal.Line.{Line}
use Rattle.g_net.specs.Network.{ReadsBelow}
use Rattle.m_valid.specs.declared.nodes.Node.{Node}
use Rattle.m_valid.specs.declared.nodes.Node.TheVariants.{Constant, Source, And, Xor}
use Rattle.m_valid.specs.declared.marks.Mark.{Mark}
use Rattle.m_valid.specs.declared.step.Step.{Step}
use Rattle.m_valid.specs.declared.step.Step.TheVariants.{Down, Up, Stop}
use Rattle.m_valid.specs.declared.step.Operands.{Operands}
use Rattle.m_valid.specs.declared.step.Operands.TheVariants.{Known, Unknown}
use Rattle.m_valid.specs.Validity.{is_among, increase, ends_in, steps_from, cone_value, assigned, is_covered, root_value}

-- flags that are set exactly at the numbers of a list
abbrev pub Tells : List Bool → List ℕ → Type 0
Tells flags numbers = (k : ℕ) → slice_index_or flags k false ≡ is_among k numbers

-- the nodes that each gate reads are below
abbrev pub AllReadBelow : ℕ → List Gate → Type 0
AllReadBelow count gates = (k : ℕ) → k < length gates → ReadsBelow count (slice_index_or gates k (gate.And 0 0))

-- the table of a mark, where it is of this line
abbrev pub table_of : ℕ → Mark → Option ℕ
table_of line mark = if mark.line == line then Some mark.table else None

-- the table of a node, where this line's walk has marked it
abbrev pub known : List Mark → ℕ → ℕ → Option ℕ
known marks line number = table_of line (slice_index_or marks number (record { line = 0; table = 0 }))

-- how many nodes the line's walk has not marked
abbrev pub left : ℕ → List Mark → ℕ
left line [] = 0
left line (m ∷ ms) = (if m.line == line then 0 else 1) + left line ms

-- a table has these bits
abbrev pub HasBits : ℕ → (ℕ → Bool) → Type 0
HasBits table bits = (i : ℕ) → i < 64 → table_bit table i ≡ bits i

-- The table of leaf j, where the leaves behind the first j are these.
abbrev pub IsLeafTable : ℕ → List ℕ → ℕ → Option ℕ → Type 0
IsLeafTable j leaves number None = is_among number leaves ≡ false
IsLeafTable j leaves number (Some table) = (is_among number leaves ≡ true) × ((i : ℕ) → i < 64 → assigned leaves (i / 2 ^ j) number ≡ Some (table_bit table i))

-- Every way down from the node meets a leaf or the constant, and the table is that of its values.
abbrev pub IsDone : List Node → List ℕ → ℕ → ℕ → Type 0
IsDone nodes leaves number table =
    (ends_in nodes leaves (steps_from number) number ≡ true) × HasBits table (λ i. cone_value nodes (assigned leaves i) (steps_from number) number)

-- What the marks tell of a cone: tables are right, and leaves have one.
pub record AreRight (nodes : List Node) (leaves : List ℕ) (known_at : ℕ → Option ℕ) : Type 0 where
  pub done : (number table : ℕ) → known_at number ≡ Some table → IsDone nodes leaves number table
  pub leaves_known : (number : ℕ) → known_at number ≡ None → is_among number leaves ≡ false

-- The way from the root to a node that has no table yet: each is smaller than that before it, none has a table, and where
-- one of them does not end well, neither does the root.
pub record IsPath (nodes : List Node) (leaves : List ℕ) (known_at : ℕ → Option ℕ) (root : ℕ) (path : List ℕ) : Type 0 where
  pub below : (k : ℕ) → k < length path → slice_index path k < root
  pub unknown : (k : ℕ) → k < length path → known_at (slice_index path k) ≡ None
  pub blamed : (k : ℕ) → k < length path → ends_in nodes leaves (steps_from (slice_index path k)) (slice_index path k) ≡ false
      → ends_in nodes leaves (steps_from root) root ≡ false
  pub falls : (j k : ℕ) → j < k → k < length path → slice_index path k < slice_index path j

-- the last one, and else the root
abbrev pub last_of : List ℕ → ℕ → ℕ
last_of path root = slice_index_or path (length path - 1) root

-- What is known while a walk stands at the last node of a path.
pub record IsWalking (nodes : List Node) (l : Line) (known_at : ℕ → Option ℕ) (path : List ℕ) : Type 0 where
  pub right : AreRight nodes l.leaves known_at
  pub way : IsPath nodes l.leaves known_at l.root path

-- A bound of the turns that are left: with each of them a node less is unmarked, or the walk stands at a smaller node.
abbrev pub to_do : ℕ → ℕ → List Mark → List ℕ → ℕ
to_do line root marks path = left line marks * (root + 1) + last_of path root

-- A turn of a walk goes on, with less to do, or it stops where the root's ways don't end well.
abbrev pub IsTurn : List Node → Line → ℕ → (old new : List Mark) → (before after : List ℕ) → Bool → Type 0
IsTurn nodes l line old new before after true = IsWalking nodes l (known new line) after × (to_do line l.root new after < to_do line l.root old before)
IsTurn nodes l line old new before after false = is_covered nodes l ≡ false

-- the table of a literal's values
abbrev pub literal_bit : ℕ → ℕ → ℕ → Bool
literal_bit literal table i = xor (literal % 2 == 1) (table_bit table i)

-- the tables of both literals, or a node without one
abbrev pub AreOperands : (ℕ → Option ℕ) → ℕ → ℕ → Operands → Type 0
AreOperands known_at a b (Known x y) =
    (p : ℕ) × (q : ℕ) × (known_at (a / 2) ≡ Some p) × (known_at (b / 2) ≡ Some q) × HasBits x (literal_bit a p) × HasBits y (literal_bit b q)
AreOperands known_at a b (Unknown number) = (known_at number ≡ None) × ((number ≡ a / 2) ⊎ (number ≡ b / 2))

-- the table of a node whose operands have tables
abbrev pub IsTable : (ℕ → Option ℕ) → Node → ℕ → Type 0
IsTable known_at Constant table = HasBits table (λ i. false)
IsTable known_at Source table = ⊥
IsTable known_at (And a b) table =
    (p : ℕ) × (q : ℕ) × (known_at (a / 2) ≡ Some p) × (known_at (b / 2) ≡ Some q) × HasBits table (λ i. literal_bit a p i && literal_bit b q i)
IsTable known_at (Xor a b) table =
    (p : ℕ) × (q : ℕ) × (known_at (a / 2) ≡ Some p) × (known_at (b / 2) ≡ Some q) × HasBits table (λ i. xor (literal_bit a p i) (literal_bit b q i))

abbrev pub IsOperand : ℕ → Node → Type 0
IsOperand number Constant = ⊥
IsOperand number Source = ⊥
IsOperand number (And a b) = (number ≡ a / 2) ⊎ (number ≡ b / 2)
IsOperand number (Xor a b) = (number ≡ a / 2) ⊎ (number ≡ b / 2)

-- The next step at a node: down to an operand that has no table, up with the node's table, or no further.
abbrev pub IsStep : (ℕ → Option ℕ) → Node → Step → Type 0
IsStep known_at node (Down number) = (known_at number ≡ None) × IsOperand number node
IsStep known_at node (Up table) = IsTable known_at node table
IsStep known_at node Stop = node ≡ Source

-- the table of a root, or none where a way down meets a source that is no leaf
abbrev pub IsCone : List Node → Line → Option ℕ → Type 0
IsCone nodes l None = is_covered nodes l ≡ false
IsCone nodes l (Some table) = (is_covered nodes l ≡ true) × HasBits table (root_value nodes l)

-- What is known of a line once V1 and V2 hold for it.
pub record IsReady (count : ℕ) (l : Line) : Type 0 where
  pub root : l.root < count
  pub few : length l.leaves ≤ 6
  pub increase : increase 0 l.leaves l.root ≡ true

-- the place of what was wrong before, or else this one
abbrev pub sooner : Option ℕ → Option ℕ → Option ℕ
sooner None place = place
sooner (Some first) place = Some first
