-- The lines of a proposal, read on from node to node. No public clause names these.
use Rattle.std.specs.Prelude.{ℕ, ◌+◌, ◌≤◌, ◌==◌, nat_le, List, [], ◌∷◌, length, Option, None, Some, if◌then◌else◌, ⊤}
use Rattle.g_net.specs.declared.proposal.Line.{Line}
use Rattle.n_cells.specs.Leaves.{most_leaves}

-- the lines from the first on whose root is at least this number
abbrev pub from_root : ℕ → List Line → List Line
from_root number [] = []
from_root number (l ∷ ls) = if nat_le number l.root then l ∷ ls else from_root number ls

-- the first line, where it is that of this node
abbrev pub first_line : List Line → ℕ → Option Line
first_line [] node = None
first_line (l ∷ ls) node = if l.root == node then Some l else None

-- the roots strictly increase, the first of them is at least this number, and no line has more leaves than a look-up table
abbrev pub AreCuts : ℕ → List Line → Type 0
AreCuts least [] = ⊤
AreCuts least (l ∷ ls) = (least ≤ l.root) × (length l.leaves ≤ most_leaves) × AreCuts (l.root + 1) ls
