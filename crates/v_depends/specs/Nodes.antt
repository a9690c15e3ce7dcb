-- Graphs over numbers, and the nodes that a walk reaches.
use Rattle.std.specs.Prelude.{◌≡◌, ◌⊎◌, ℕ, ◌+◌, ◌<◌, ◌≤◌, ◌==◌, List, [], ◌∷◌, ◌++◌, length, Bool, true, false, not, ◌||◌, if◌then◌else◌, slice_index_or}
use Rattle.std.specs.List.{All, count_by}
use Rattle.v_depends.specs.declared.walking.Reached.{Reached}

abbrev pub is_in : ℕ → List ℕ → Bool
is_in n [] = false
is_in n (m ∷ ms) = m == n || is_in n ms

abbrev pub is_marked : List Bool → ℕ → Bool
is_marked marks node = slice_index_or marks node false

-- the row of a node
abbrev pub row : List (List ℕ) → ℕ → List ℕ
row rows node = slice_index_or rows node []

-- from where the edges to a node come
abbrev pub sources : List (ℕ × ℕ) → ℕ → List ℕ
sources [] node = []
sources (e ∷ es) node = (if e.1 == node then e.0 ∷ [] else []) ++ sources es node

-- from where the edges to marked nodes come
abbrev pub starts_of : List Bool → List (ℕ × ℕ) → List ℕ
starts_of on [] = []
starts_of on (e ∷ es) = (if is_marked on e.1 then e.0 ∷ [] else []) ++ starts_of on es

-- the marked nodes are those in this order, each once
pub record Marked (r : Reached) : Type 0 where
  pub same : (node : ℕ) → is_marked r.marks node ≡ is_in node r.order.items
  pub count : count_by not r.marks + length r.order.items ≡ length r.marks

-- some of these nodes come behind those before, and then all of them are there that are below the bound
pub record Adds (bound : ℕ) (before nodes after : List ℕ) : Type 0 where
  pub more : List ℕ
  pub behind : after ≡ before ++ more
  pub from : (node : ℕ) → is_in node more ≡ true → is_in node nodes ≡ true
  pub all : (node : ℕ) → is_in node nodes ≡ true → node < bound → is_in node after ≡ true

-- a node comes behind those before, or nothing does
abbrev pub Once : ℕ → List ℕ → List ℕ → Type 0
Once node before after = (after ≡ before) ⊎ ((is_in node before ≡ false) × (after ≡ before ++ node ∷ []))

-- a set of nodes holds the starts, and with each node the row of that node, as far as these are nodes that there are
pub record IsClosed (bound : ℕ) (rows : List (List ℕ)) (starts : List ℕ) (holds : ℕ → Bool) : Type 0 where
  pub begins : (node : ℕ) → is_in node starts ≡ true → node < bound → holds node ≡ true
  pub goes : (node next : ℕ) → holds node ≡ true → is_in next (row rows node) ≡ true → next < bound → holds next ≡ true

-- the marked nodes are the least such set
pub record IsReached (rows : List (List ℕ)) (starts : List ℕ) (marks : List Bool) : Type 0 where
  pub long : length marks ≡ length rows
  pub closed : IsClosed (length rows) rows starts (is_marked marks)
  pub least : (holds : ℕ → Bool) → IsClosed (length rows) rows starts holds → (node : ℕ) → is_marked marks node ≡ true → holds node ≡ true

-- Levels do not rise along edges, and each node with an edge that does not fall is marked.
pub record IsSuspect (bound : ℕ) (edges : List (ℕ × ℕ)) (marks : List Bool) : Type 0 where
  pub level : ℕ → ℕ
  pub falls : All (λ (e : ℕ × ℕ). level e.1 ≤ level e.0) edges
  pub flat : All (λ (e : ℕ × ℕ). level e.0 ≤ level e.1 → e.0 < bound → is_marked marks e.0 ≡ true) edges
