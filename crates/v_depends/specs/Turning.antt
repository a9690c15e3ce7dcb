-- Nodes that come in turn, each behind its row.
use Rattle.std.specs.Prelude.{◌≡◌, ⊤, ℕ, ◌<◌, List, [], ◌∷◌, ◌++◌, length, true, false, slice_index}
use Rattle.v_depends.specs.declared.turns.Turns.{Turns}
use Rattle.v_depends.specs.Nodes.{Marked, is_in, row}

-- all of these nodes are among those
abbrev pub AreWithin : List ℕ → List ℕ → Type 0
AreWithin these nodes = (node : ℕ) → is_in node these ≡ true → is_in node nodes ≡ true

-- one of these nodes is not among those
abbrev pub Lacks : List ℕ → List ℕ → Type 0
Lacks these nodes = (node : ℕ) × (is_in node these ≡ true) × (is_in node nodes ≡ false)

-- nodes behind others, each once and behind its row
abbrev pub InTurn : List (List ℕ) → List ℕ → List ℕ → Type 0
InTurn rows before [] = ⊤
InTurn rows before (node ∷ nodes) = (is_in node before ≡ false) × AreWithin (row rows node) before × InTurn rows (before ++ node ∷ []) nodes

-- the nodes that have come so far did so in turn, and of each row this much has come
pub record AreTurns (rows : List (List ℕ)) (t : Turns) : Type 0 where
  pub marked : Marked t.reached
  pub long : length t.reached.marks ≡ length rows
  pub many : length t.passed.items ≡ length rows
  pub passed : (node k : ℕ) → k < slice_index t.passed.items node → k < length (row rows node) → is_in (slice_index (row rows node) k) t.reached.order.items ≡ true
  pub turns : InTurn rows [] t.reached.order.items

-- Each of these nodes had its turn: it has come, or one of its row had not come before.
pub record Advances (rows : List (List ℕ)) (before nodes : List ℕ) (t : Turns) : Type 0 where
  pub now : AreTurns rows t
  pub more : List ℕ
  pub behind : t.reached.order.items ≡ before ++ more
  pub stalls : (node : ℕ) → is_in node nodes ≡ true → node < length rows → is_in node t.reached.order.items ≡ false → Lacks (row rows node) before

-- Nodes came in turn, and what did not come lacks one of its row.
pub record AreAllTurns (rows : List (List ℕ)) (order : List ℕ) : Type 0 where
  pub turns : InTurn rows [] order
  pub within : (node : ℕ) → is_in node order ≡ true → node < length rows
  pub stalls : (node : ℕ) → node < length rows → is_in node order ≡ false → Lacks (row rows node) order

-- who waits for a node is in its row
pub record AreWaiting (rows waiting : List (List ℕ)) : Type 0 where
  pub long : length waiting ≡ length rows
  pub each : (node on : ℕ) → is_in on (row rows node) ≡ true → node < length rows → on < length rows → is_in node (row waiting on) ≡ true
